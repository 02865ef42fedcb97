-- The inputs of services as lists, and the step that makes them.
use Rattle.std.specs.Prelude.{◌≡◌, ℕ, ◌+◌, ◌<◌, ◌≤◌, true, List, [], ◌∷◌, length, None}
use Rattle.hw_pool.specs.Nodes.{PoolValue}
use Rattle.hw_module.specs.declared.rows.Owner.TheVariants.{Entry}
use Rattle.hw_module.specs.Rows.{ModuleValue, wire_at}
use Rattle.hw_module.specs.Rights.{Rights, Makes}
use Rattle.hw_module.specs.Checked.{DriversFit}
use Rattle.service_ports.specs.declared.ports.HazardStage.{HazardStage}
use Rattle.plug_part.specs.Owned.{is_among}
use Rattle.plug_build.specs.Fits.{AreApart, AreInputs}
use Rattle.plug_kit.specs.declared.inputs.FetchInputs.{FetchInputs}
use Rattle.plug_kit.specs.declared.inputs.PredictInputs.{PredictInputs}
use Rattle.plug_kit.specs.declared.inputs.DecoderInputs.{DecoderInputs}
use Rattle.plug_kit.specs.declared.inputs.RegFileInputs.{RegFileInputs}
use Rattle.plug_kit.specs.declared.inputs.HazardInputs.{HazardInputs}
use Rattle.plug_kit.specs.declared.inputs.ExecInputs.{ExecInputs}
use Rattle.plug_kit.specs.declared.inputs.SystemInputs.{SystemInputs}

-- inputs in the order of the table of services
abbrev pub fetch_list : FetchInputs → List ℕ
fetch_list w = w.take ∷ w.redirect ∷ w.redirect_pc ∷ w.fence ∷ []

abbrev pub predict_list : PredictInputs → List ℕ
predict_list w = w.pc ∷ w.word ∷ []

abbrev pub decoder_list : DecoderInputs → List ℕ
decoder_list w = w.word ∷ []

abbrev pub regfile_list : RegFileInputs → List ℕ
regfile_list w = w.ra ∷ w.rb ∷ w.we ∷ w.wa ∷ w.wd ∷ []

abbrev pub hazard_list : HazardInputs → List ℕ
hazard_list w = w.first.writes ∷ w.first.rd ∷ w.first.ready ∷ w.first.value ∷ w.second.writes ∷ w.second.rd ∷ w.second.ready ∷ w.second.value ∷ w.third.writes ∷ w.third.rd ∷ w.third.ready ∷ w.third.value ∷ w.ra ∷ w.rb ∷ w.uses_a ∷ w.uses_b ∷ []

abbrev pub exec_list : ExecInputs → List ℕ
exec_list w = w.go ∷ w.row ∷ w.pc ∷ w.word ∷ w.a ∷ w.b ∷ w.clear ∷ []

abbrev pub system_list : SystemInputs → List ℕ
system_list w = w.event ∷ w.kind ∷ w.pc ∷ w.cause ∷ w.tval ∷ []

-- those of one stage after decode
abbrev pub stage_list : HazardStage → List ℕ
stage_list w = w.writes ∷ w.rd ∷ w.ready ∷ w.value ∷ []

abbrev pub stage_shapes : List (ℕ × ℕ)
stage_shapes = (1, 5) ∷ (5, 5) ∷ (1, 5) ∷ (32, 5) ∷ []

-- exactly these forward wires were made, each another, with these widths and levels, and none has a driver
pub record MakesInputs (by : ℕ) (old new : ModuleValue) (ws : List ℕ) (ss : List (ℕ × ℕ)) : Type 0 where
  pub inputs : AreInputs new by ws ss
  pub apart : AreApart ws
  pub makes : (r : Rights) → Makes (Entry by) r old new (length ws)
  pub all : (k : ℕ) → length old.wires ≤ k → k < length new.wires → is_among k ws ≡ true
  pub fresh : (k : ℕ) → is_among k ws ≡ true → length old.wires ≤ k
  pub bare : (k : ℕ) → length old.wires ≤ k → k < length new.wires → (wire_at new.wires k).driver ≡ None
  pub regs : new.regs ≡ old.regs
  pub arrays : new.arrays ≡ old.arrays
  pub outs : new.outs ≡ old.outs
  pub room : old.room ≤ new.room + length ws
  pub drivers : (pool : PoolValue) → DriversFit old pool → DriversFit new pool
