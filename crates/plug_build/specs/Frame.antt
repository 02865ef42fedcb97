-- What an owner leaves to the part of an entry while it builds.
use Rattle.std.specs.Prelude.{◌≡◌, ℕ, ◌<◌, Bool, false, true, length, None}
use Rattle.hw_module.specs.declared.rows.Owner.TheVariants.{Entry}
use Rattle.hw_module.specs.Rows.{wire_at}
use Rattle.hw_module.specs.Rights.{Rights}
use Rattle.service_reg.specs.declared.service.Service.{Service}
use Rattle.service_reg.specs.declared.service.Service.TheVariants.{Fetch}
use Rattle.service_ports.specs.Registry.{single, offer_of}
use Rattle.plug_part.specs.Owned.{is_own_input, is_predict_input, is_out_of, offers}
use Rattle.plug_build.specs.World.{World}

-- A forward wire is an input of Predict as it was, with the row that it had; or Predict comes, and it is open.
pub data PredictStays (old new : World) (k : ℕ) : Type 0 where
  Stays : is_predict_input new.reg k ≡ is_predict_input old.reg k
      → (is_predict_input old.reg k ≡ true → (k < length old.design.wires) × (wire_at new.design.wires k ≡ wire_at old.design.wires k)) → PredictStays old new k
  Comes : is_predict_input old.reg k ≡ false → (wire_at new.design.wires k).driver ≡ None → PredictStays old new k

-- Nothing of an entry is within these rights, and what it offers and takes stays: but for the drivers of the inputs of its
-- services.
pub record Leaves (takes : (s : Service) → Bool) (entry : ℕ) (r : Rights) (old new : World) : Type 0 where
  pub offers_kept : (s : Service) → offer_of new.reg entry s ≡ offer_of old.reg entry s
  pub took : (s : Service) → takes s ≡ true → single new.reg s ≡ single old.reg s
  pub wires : (k : ℕ) → (wire_at old.design.wires k).owner ≡ Entry entry → is_own_input old.reg entry k ≡ false → r.wires k ≡ false
  pub outs : (p : ℕ) → is_out_of old.reg entry p ≡ true → r.outs p ≡ false
  pub predicts : (k : ℕ) → offers old.reg entry Fetch ≡ true → PredictStays old new k
