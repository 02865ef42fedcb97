-- The lines on configurations that break a rule of acceptance.
use Rattle.std.specs.Prelude.{◌++◌, ℕ, nat_lt, List, [], Option, Some, None, codes, decimal, get_or, if◌then◌else◌}
use Rattle.isa_table.specs.Rows.{table, lui}
use Rattle.stage_map.specs.declared.config.Stage.{Stage}
use Rattle.stage_map.specs.declared.config.Stage.TheVariants as stage
use Rattle.service_reg.specs.declared.service.Service.{Service}
use Rattle.service_reg.specs.declared.service.Service.TheVariants as service
use Rattle.plug_api.specs.declared.spec.ParamFault.{ParamFault}
use Rattle.plug_api.specs.declared.spec.ParamFault.TheVariants as fault
use Rattle.plug_api.specs.declared.refusal.RuleRefusal.{RuleRefusal}
use Rattle.plug_api.specs.declared.refusal.RuleRefusal.TheVariants.{UnknownPlugin, RepeatedPlugin, BadParam, Missing, Double, CycleOfNeeds, EncodingClash, IsaMissing, IsaExtra, StageAbsent, StageOrder, KeyTwice, TooLarge, NoMemory}

abbrev pub service_text : Service → List ℕ
service_text service.Fetch = codes "fetch"
service_text service.Predict = codes "predict"
service_text service.Decoder = codes "decoder"
service_text service.RegFile = codes "regfile"
service_text service.Hazard = codes "hazard"
service_text service.Exec = codes "exec"
service_text service.DataBus = codes "databus"
service_text service.System = codes "system"

abbrev pub stage_text : Stage → List ℕ
stage_text stage.Decode = codes "decode"
stage_text stage.Execute = codes "execute"
stage_text stage.Memory = codes "memory"
stage_text stage.Writeback = codes "writeback"

-- the name of a row of the instruction table, or the number of a row that it lacks
abbrev pub row_text : ℕ → List ℕ
row_text row = if nat_lt row 57 then (get_or table row lui).name else decimal row

-- the number of an entry, where there is one
abbrev pub number_or_dash : Option ℕ → List ℕ
number_or_dash None = codes "-"
number_or_dash (Some number) = decimal number

-- the key of a parameter that is refused
abbrev pub key_of : ParamFault → List ℕ
key_of (fault.Unknown key) = key
key_of (fault.Range key found low high) = key
-- a lack of memory is no fault of a parameter
key_of fault.NoMemory = []

-- a field of a line: its name and its value, and what follows
abbrev pub field : (name value behind : List ℕ) → List ℕ
field name value behind = name ++ (value ++ behind)

abbrev pub line_end : List ℕ
line_end = codes "\n"

-- the line on the first rule that fails: its number, and where it fails
abbrev pub rule_line : RuleRefusal → List ℕ
rule_line (UnknownPlugin entry) = field (codes "rules 1 entry=") (decimal entry) line_end
rule_line (RepeatedPlugin entry other) = field (codes "rules 2 entry=") (decimal entry) (field (codes " other=") (decimal other) line_end)
rule_line (BadParam entry found) = field (codes "rules 3 entry=") (decimal entry) (field (codes " key=") (key_of found) line_end)
rule_line (Missing needed by) = field (codes "rules 4 service=") (service_text needed) (field (codes " by=") (number_or_dash by) line_end)
rule_line (Double offered a b) =
    field (codes "rules 5 service=") (service_text offered) (field (codes " entry=") (decimal a) (field (codes " other=") (decimal b) line_end))
rule_line (CycleOfNeeds plug) = field (codes "rules 6 entry=") (decimal plug) line_end
rule_line (EncodingClash entry row other other_row) =
    field (codes "rules 7 entry=") (decimal entry) (field (codes " row=") (row_text row)
    (field (codes " other=") (decimal other) (field (codes " other_row=") (row_text other_row) line_end)))
rule_line (IsaMissing row) = field (codes "rules 8 row=") (row_text row) line_end
rule_line (IsaExtra entry row) = field (codes "rules 9 entry=") (decimal entry) (field (codes " row=") (row_text row) line_end)
rule_line (StageAbsent plug absent) = field (codes "rules 10 plug=") (number_or_dash plug) (field (codes " stage=") (stage_text absent) line_end)
rule_line (StageOrder key reader writer) =
    field (codes "rules 11 key=") key (field (codes " reader=") (decimal reader) (field (codes " writer=") (number_or_dash writer) line_end))
rule_line (KeyTwice key a b) = field (codes "rules 12 key=") key (field (codes " entry=") (decimal a) (field (codes " other=") (decimal b) line_end))
rule_line (TooLarge wanted limit) = field (codes "rules 13 wanted=") (decimal wanted) (field (codes " limit=") (decimal limit) line_end)
-- a lack of memory is no rule
rule_line NoMemory = []
