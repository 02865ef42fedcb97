-- The ports of services as lists, and the table of their widths and levels. What drives an input has a level below the
-- input's, and an output has at most the stated level, so no forward wire depends on itself.
use Rattle.std.specs.Prelude.{ℕ, List, [], ◌∷◌}
use Rattle.hw_expr.specs.declared.net.Net.{Net}
use Rattle.service_reg.specs.declared.service.Service.{Service}
use Rattle.service_reg.specs.declared.service.Service.TheVariants.{Fetch, Predict, Decoder, RegFile, Hazard, Exec, DataBus, System}
use Rattle.service_ports.specs.declared.ports.FetchPorts.{FetchPorts}
use Rattle.service_ports.specs.declared.ports.PredictPorts.{PredictPorts}
use Rattle.service_ports.specs.declared.ports.DecoderPorts.{DecoderPorts}
use Rattle.service_ports.specs.declared.ports.RegFilePorts.{RegFilePorts}
use Rattle.service_ports.specs.declared.ports.HazardPorts.{HazardPorts}
use Rattle.service_ports.specs.declared.ports.ExecPorts.{ExecPorts}
use Rattle.service_ports.specs.declared.ports.DataBusPorts.{DataBusPorts}
use Rattle.service_ports.specs.declared.ports.SystemPorts.{SystemPorts}

-- the inputs of a service by the numbers of their forward wires and its outputs as nets, each in the order of the table
pub record Ports : Type 0 where
  pub inputs : List ℕ
  pub outputs : List Net

abbrev pub fetch_ports : FetchPorts → Ports
fetch_ports p = record { inputs = p.take ∷ p.redirect ∷ p.redirect_pc ∷ p.fence ∷ []; outputs = p.valid ∷ p.pc ∷ p.word ∷ p.error ∷ [] }

abbrev pub predict_ports : PredictPorts → Ports
predict_ports p = record { inputs = p.pc ∷ p.word ∷ []; outputs = p.next ∷ [] }

abbrev pub decoder_ports : DecoderPorts → Ports
decoder_ports p = record { inputs = p.word ∷ []; outputs = p.legal ∷ p.row ∷ p.unit ∷ p.uses_a ∷ p.uses_b ∷ p.writes ∷ [] }

abbrev pub regfile_ports : RegFilePorts → Ports
regfile_ports p = record { inputs = p.ra ∷ p.rb ∷ p.we ∷ p.wa ∷ p.wd ∷ []; outputs = p.a ∷ p.b ∷ [] }

abbrev pub hazard_ports : HazardPorts → Ports
hazard_ports p = record { inputs = p.first.writes ∷ p.first.rd ∷ p.first.ready ∷ p.first.value ∷ p.second.writes ∷ p.second.rd ∷ p.second.ready ∷ p.second.value ∷ p.third.writes ∷ p.third.rd ∷ p.third.ready ∷ p.third.value ∷ p.ra ∷ p.rb ∷ p.uses_a ∷ p.uses_b ∷ []; outputs = p.hold ∷ p.a ∷ p.b ∷ [] }

abbrev pub exec_ports : ExecPorts → Ports
exec_ports p = record { inputs = p.go ∷ p.row ∷ p.pc ∷ p.word ∷ p.a ∷ p.b ∷ p.clear ∷ []; outputs = p.done ∷ p.value ∷ p.next_pc ∷ p.trap ∷ p.cause ∷ p.tval ∷ p.fence ∷ [] }

abbrev pub databus_ports : DataBusPorts → Ports
databus_ports p = record { inputs = []; outputs = [] }

abbrev pub system_ports : SystemPorts → Ports
system_ports p = record { inputs = p.event ∷ p.kind ∷ p.pc ∷ p.cause ∷ p.tval ∷ []; outputs = p.take_irq ∷ p.irq_cause ∷ p.base ∷ [] }

-- ---- the table

-- width and level of each input of a service
abbrev pub input_shapes : Service → List (ℕ × ℕ)
input_shapes Fetch = (1, 8) ∷ (1, 8) ∷ (32, 8) ∷ (1, 8) ∷ []
input_shapes Predict = (32, 1) ∷ (32, 1) ∷ []
input_shapes Decoder = (32, 1) ∷ []
input_shapes RegFile = (5, 2) ∷ (5, 2) ∷ (1, 8) ∷ (5, 8) ∷ (32, 8) ∷ []
input_shapes Hazard = (1, 5) ∷ (5, 5) ∷ (1, 5) ∷ (32, 5) ∷ (1, 5) ∷ (5, 5) ∷ (1, 5) ∷ (32, 5) ∷ (1, 5) ∷ (5, 5) ∷ (1, 5) ∷ (32, 5) ∷ (5, 5) ∷ (5, 5) ∷ (1, 5) ∷ (1, 5) ∷ []
input_shapes Exec = (1, 4) ∷ (7, 4) ∷ (32, 4) ∷ (32, 4) ∷ (32, 4) ∷ (32, 4) ∷ (1, 8) ∷ []
input_shapes DataBus = []
input_shapes System = (1, 7) ∷ (2, 7) ∷ (32, 7) ∷ (32, 7) ∷ (32, 7) ∷ []

-- the width of each output of a service
abbrev pub output_widths : Service → List ℕ
output_widths Fetch = 1 ∷ 32 ∷ 32 ∷ 1 ∷ []
output_widths Predict = 32 ∷ []
output_widths Decoder = 1 ∷ 7 ∷ 5 ∷ 1 ∷ 1 ∷ 1 ∷ []
output_widths RegFile = 32 ∷ 32 ∷ []
output_widths Hazard = 1 ∷ 32 ∷ 32 ∷ []
output_widths Exec = 1 ∷ 32 ∷ 32 ∷ 1 ∷ 32 ∷ 32 ∷ 1 ∷ []
output_widths DataBus = []
output_widths System = 1 ∷ 32 ∷ 32 ∷ []

-- the greatest level of an output of a service
abbrev pub output_level : Service → ℕ
output_level Fetch = 0
output_level Predict = 1
output_level Decoder = 1
output_level RegFile = 2
output_level Hazard = 5
output_level Exec = 4
output_level DataBus = 0
output_level System = 0
