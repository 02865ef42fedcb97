-- The outputs of a service are nets of the module.
use Rattle.std.proofs.Common.{◌≡◌, ℕ, zero, suc, ◌<◌, List, [], ◌∷◌, length, get_or, ◌++◌, arith, ap, Option, None, Some}
use Rattle.hw_pool.specs.Nodes.{PoolValue}
use Rattle.hw_expr.specs.declared.net.Net.{Net}
use Rattle.hw_module.specs.Rows.{ModuleValue}
use Rattle.service_reg.specs.declared.service.Service.{Service}
use Rattle.service_reg.specs.declared.service.Service.TheVariants.{Fetch, Predict, Decoder, RegFile, Hazard, Exec, System}
use Rattle.service_ports.specs.declared.ports.ExecOffer.{ExecOffer}
use Rattle.service_ports.specs.declared.ports.FetchPorts.{FetchPorts}
use Rattle.service_ports.specs.declared.ports.PredictPorts.{PredictPorts}
use Rattle.service_ports.specs.declared.ports.DecoderPorts.{DecoderPorts}
use Rattle.service_ports.specs.declared.ports.RegFilePorts.{RegFilePorts}
use Rattle.service_ports.specs.declared.ports.HazardPorts.{HazardPorts}
use Rattle.service_ports.specs.declared.ports.SystemPorts.{SystemPorts}
use Rattle.service_ports.specs.Ports.{Ports, fetch_ports, predict_ports, decoder_ports, regfile_ports, hazard_ports, exec_ports, system_ports, output_level, output_widths}
use Rattle.service_ports.specs.Registry.{Offered, offered_as, ports_in, single}
use Rattle.plug_build.specs.World.{World}
use Rattle.plug_build.specs.Fits.{AreOutputs, WorldFits}
use Rattle.plug_build.proofs.Frame.{some_eq}
use Rattle.part_bench.specs.Whole.{AreIn}

are-in : (d : ModuleValue) (pool : PoolValue) (most : ℕ) (ns : List Net) (ws : List ℕ) → AreOutputs d pool most ns ws → AreIn d pool ns
are-in d pool most [] ws h k l = absurd (omega arith)
are-in d pool most (n ∷ ns) [] h k l = absurd h
are-in d pool most (n ∷ ns) (w ∷ ws) h zero l = h.0.scope
are-in d pool most (n ∷ ns) (w ∷ ws) h (suc k) l = are-in d pool most ns ws h.1 k (omega arith)

-- nets of two lists
pub both_in : (d : ModuleValue) (pool : PoolValue) (xs ys : List Net) → AreIn d pool xs → AreIn d pool ys → AreIn d pool (xs ++ ys)
both_in d pool [] ys h g k l = g k l
both_in d pool (x ∷ xs) ys h g zero l = h 0 (omega arith)
both_in d pool (x ∷ xs) ys h g (suc k) l = both_in d pool xs ys (λ j m. h (suc j) (omega arith)) g k (omega arith)

offered-by : {A : Type 0} (f : A → Ports) (o : Option (ℕ × A)) (p : A) → ports_in o ≡ Some p → (by : ℕ) × (offered_as f o ≡ Some (record { by = by; ports = f p }))
offered-by f None p e = cc
offered-by f (Some x) p e = (x.0, ap (λ q. Some (record { by = x.0; ports = f q })) (some_eq e))

module _ (w : World) (fits : WorldFits w) where
  single-in : (s : Service) (o : Offered) → single w.reg s ≡ Some o → AreIn w.design w.pool o.ports.outputs
  single-in s o is = are-in _ _ _ _ _ (fits.offers.singles s o is).outputs

  pub fetch_in : (p : FetchPorts) → ports_in w.reg.fetch ≡ Some p → AreIn w.design w.pool (fetch_ports p).outputs
  fetch_in p e = let o = offered-by fetch_ports w.reg.fetch p e in single-in Fetch (record { by = o.0; ports = fetch_ports p }) o.1

  pub predict_in : (p : PredictPorts) → ports_in w.reg.predict ≡ Some p → AreIn w.design w.pool (predict_ports p).outputs
  predict_in p e = let o = offered-by predict_ports w.reg.predict p e in single-in Predict (record { by = o.0; ports = predict_ports p }) o.1

  pub decoder_in : (p : DecoderPorts) → ports_in w.reg.decoder ≡ Some p → AreIn w.design w.pool (decoder_ports p).outputs
  decoder_in p e = let o = offered-by decoder_ports w.reg.decoder p e in single-in Decoder (record { by = o.0; ports = decoder_ports p }) o.1

  pub regfile_in : (p : RegFilePorts) → ports_in w.reg.regfile ≡ Some p → AreIn w.design w.pool (regfile_ports p).outputs
  regfile_in p e = let o = offered-by regfile_ports w.reg.regfile p e in single-in RegFile (record { by = o.0; ports = regfile_ports p }) o.1

  pub hazard_in : (p : HazardPorts) → ports_in w.reg.hazard ≡ Some p → AreIn w.design w.pool (hazard_ports p).outputs
  hazard_in p e = let o = offered-by hazard_ports w.reg.hazard p e in single-in Hazard (record { by = o.0; ports = hazard_ports p }) o.1

  pub system_in : (p : SystemPorts) → ports_in w.reg.system ≡ Some p → AreIn w.design w.pool (system_ports p).outputs
  system_in p e = let o = offered-by system_ports w.reg.system p e in single-in System (record { by = o.0; ports = system_ports p }) o.1

  pub exec_in : (o : ExecOffer) → 0 < length w.reg.execs → get_or w.reg.execs 0 o ≡ o → AreIn w.design w.pool (exec_ports o.ports).outputs
  exec_in o some is = are-in _ _ (output_level Exec) (exec_ports o.ports).outputs (output_widths Exec) (fits.offers.execs 0 o some is).outputs
