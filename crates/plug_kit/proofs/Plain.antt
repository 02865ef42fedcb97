-- What an entry does that builds a part without state in its first call.
use Rattle.std.proofs.Common.{◌∙◌, ℕ, ◌+◌, ◌≤◌, List, length, map, ap, sym, subst, Bool, false, refl}
use Rattle.hw_module.specs.declared.rows.Owner.TheVariants.{Entry}
use Rattle.hw_module.specs.declared.rows.RegRow.{RegRow}
use Rattle.hw_module.specs.declared.rows.ArrayRow.{ArrayRow}
use Rattle.hw_module.specs.Rows.{reg_at, array_at}
use Rattle.hw_module.specs.Rights.{Rights}
use Rattle.service_reg.specs.declared.service.Service.{Service}
use Rattle.service_ports.specs.Ports.{Ports, input_shapes}
use Rattle.plug_part.specs.Alone.{OffersOnly}
use Rattle.plug_part.specs.Of.{net_tree}
use Rattle.plug_build.specs.World.{World, Builds, part_in}
use Rattle.plug_build.specs.Fits.{AreInputs, WorldFits}
use Rattle.plug_build.specs.Done.{AreOpen}
use Rattle.plug_build.proofs.Worlds.{world_fits, offered_fits, builds_of}
use Rattle.plug_kit.specs.Unit.{IsOffered}
use Rattle.plug_kit.specs.Bare.{IsBare}
use Rattle.plug_kit.specs.Plain.{IsPlain}
use Rattle.plug_kit.proofs.Bare.{only_offer}
use Rattle.plug_kit.proofs.Rows.{reg_in, array_in}
use Rattle.plug_kit.proofs.Unit.{offered_apart, offered_new, offered_open, offered_wires}

no-rights : Rights
no-rights = record { wires = λ k. false; locked = λ k. false; outs = λ k. false }

module _ (s : Service) (e n : ℕ) (old new : World) (ws : List ℕ) (p : Ports) (u : IsPlain s e n old new ws p) where
  offered : IsOffered s e old new new.design ws p
  offered = record { nothing = u.nothing; made = u.made; wires = refl; inputs = u.inputs; offers = u.offers }

  inputs-fit : AreInputs new.design e p.inputs (input_shapes s)
  inputs-fit = subst (λ (vs : List ℕ). AreInputs new.design e vs (input_shapes s)) (sym u.inputs) u.made.inputs

  pub plain_fits : WorldFits new
  plain_fits =
      world_fits old new n (length ws) u.fits u.adds (u.made.makes no-rights).grows (u.made.drivers new.pool)
      (λ f. offered_fits new.design new.pool old.reg new.reg f s (record { by = e; ports = p }) u.is u.offers.singles u.execs (record { inputs = inputs-fit; outputs = u.outputs; apart = offered_apart s e old new new.design ws p offered })
      (offered_new s e old new new.design ws p offered u.fits))

  pub plain_builds : (r : Rights) (most : ℕ) → n + length ws ≤ most → Builds (Entry e) r most old new
  plain_builds r most sum = builds_of (Entry e) r most n (length ws) old new u.adds (u.made.makes r) sum

  pub plain_open : AreOpen e new
  plain_open = offered_open s e old new new.design ws p offered

  pub plain_only : (takes : Service → Bool) → OffersOnly (part_in takes e new) s (record { inputs = p.inputs; outputs = map (net_tree new.pool.nodes) p.outputs })
  plain_only takes = only_offer s e old new new.design ws p offered takes

  pub plain_bare : (takes : Service → Bool) → IsBare (part_in takes e new) p.inputs
  plain_bare takes = record {
    only = offered_wires s e old new new.design ws p offered takes;
    regs = λ k row h. u.nothing.regs k (ap (λ (rs : List RegRow). (reg_at rs k).owner) (sym u.made.regs) ∙ (reg_in takes e new k row h).0);
    arrays = λ k row h. u.nothing.arrays k (ap (λ (rs : List ArrayRow). (array_at rs k).owner) (sym u.made.arrays) ∙ (array_in takes e new k row h).0);
  }
