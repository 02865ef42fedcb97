-- No fault of parameters is want of memory, and what a plug-in of tests says a plug-in may say.
use Rattle.std.proofs.Common.{◌≡◌, List, [], ◌∷◌, Bool, true, false, cond, Option, None, Some}
use Rattle.stage_map.specs.declared.config.Param.{Param}
use Rattle.plug_api.specs.declared.spec.ParamFault.{ParamFault}
use Rattle.plug_api.specs.declared.spec.ParamFault.TheVariants.{NoMemory}
use Rattle.stage_map.specs.declared.config.PlugEntry.{PlugEntry}
use Rattle.plug_api.specs.declared.spec.PlugSpec.{PlugSpec}
use Rattle.plug_api.specs.Spec.{IsSound, IsSpec}
use Rattle.plug_kinds.specs.declared.kind.Kind.{Kind}
use Rattle.plug_kinds.specs.declared.kind.Values.{Values}
use Rattle.plug_kinds.specs.Kinds.{Parameter, is_of, values_of, fault_by, first_of, fault_in, fault_of, row_of, spec_of}
use Rattle.plug_kinds.proofs.Fits.{fits}

by_test : (b : Bool) (f : ParamFault) (rest : Option ParamFault) → (f ≡ NoMemory → ⊥) → (rest ≡ Some NoMemory → ⊥)
    → first_of (cond b None (Some f)) rest ≡ Some NoMemory → ⊥
by_test true f rest other h e = h e
by_test false f rest other h e = other cc

by_values : (v : Option Values) (p : Param) (rest : Option ParamFault) → (rest ≡ Some NoMemory → ⊥)
    → first_of (fault_by v p) rest ≡ Some NoMemory → ⊥
by_values None p rest h e = cc
by_values (Some v) p rest h e = by_test (is_of v p.value) _ rest (λ f. cc) h e

no_memory : (known : List Parameter) (ps : List Param) → fault_in known ps ≡ Some NoMemory → ⊥
no_memory known [] e = cc
no_memory known (p ∷ ps) e = by_values (values_of known p.key) p (fault_in known ps) (no_memory known ps) e

pub kind_sound : (k : Kind) → IsSound (λ (e : PlugEntry). fault_of k e.params) (λ (e : PlugEntry). spec_of k e.params)
kind_sound k = record { no_memory = λ e. no_memory (row_of k).params e.params; fit = λ e n. fits k e.params }

pub own_sound : (s : PlugSpec) → IsSpec s → IsSound (λ (e : PlugEntry). fault_in [] e.params) (λ (e : PlugEntry). s)
own_sound s fit = record { no_memory = λ e. no_memory [] e.params; fit = λ e n. fit }
