-- A call of the program as it is seen from outside: what its words ask for, the boxes of plug-ins that it is given, and the
-- outside before and after it.
use Rattle.std.specs.Prelude.{ℕ, List, Option, String, Vec}
use Rattle.std.specs.declared.alloc.Global.{Global}
use Rattle.std.specs.declared.dyn_box.DynBox.{DynBox}
use Rattle.core_host.specs.declared.host.Host as host
use Rattle.core_host.specs.declared.host.Port.TheVariants.{Main, Notes}
use Rattle.core_host.specs.Outside.{Files, Rose}
use Rattle.stage_map.specs.declared.config.PlugEntry.{PlugEntry}
use Rattle.plug_part.specs.Part.{Part}
use Rattle.plug_api.specs.declared.plugin.Plugin as plugin
use Rattle.plug_api.specs.declared.spec.Plan.{Plan}
use Rattle.plug_api.specs.declared.spec.PlugSpec.{PlugSpec}
use Rattle.plug_api.specs.declared.spec.ParamFault.{ParamFault}
use Rattle.core_tool.specs.Words.{Form, form_of, words_of}

-- What is told of the outside: the named files, what is left of each opened one, the bytes that were pushed on the ports Main and
-- Notes, and how many faults of reading and of writing there were.
pub record Outside : Type 0 where
  pub files : Option Files
  pub left : ℕ → List ℕ
  pub main : Option (List ℕ)
  pub notes : Option (List ℕ)
  pub read_faults : ℕ
  pub write_faults : ℕ

-- The boxes of plug-ins before and after a call, and what can be told of a box: the name of its kind, the entry that it took last,
-- what it says of itself now, the first fault of an entry, what it says of itself once it took an entry, the test of the part that
-- it builds for a plan, and that test once it took an entry.
pub record Boxes (B : Type 0) : Type 1 where
  pub kind : B → List ℕ
  pub taken : B → Option PlugEntry
  pub now : B → PlugSpec
  pub fault : B → PlugEntry → Option ParamFault
  pub spec : B → PlugEntry → PlugSpec
  pub builds : B → Plan → Part → Type 0
  pub builds_for : B → PlugEntry → Plan → Part → Type 0
  pub old : List B
  pub new : List B

-- a call: the form of its words, if they have one, the files, where they are told, and the boxes
pub record Call (B : Type 0) : Type 1 where
  pub form : Option Form
  pub files : Option Files
  pub boxes : Boxes B

-- a call with the outside before and after it
pub record Seen (B : Type 0) : Type 1 where
  pub call : Call B
  pub old : Outside
  pub new : Outside

-- a fault of reading came in the call
abbrev pub ReadFailed : {B : Type 0} → Seen B → Type 0
ReadFailed seen = Rose seen.old.read_faults seen.new.read_faults

-- a fault of writing came in the call
abbrev pub WriteFailed : {B : Type 0} → Seen B → Type 0
WriteFailed seen = Rose seen.old.write_faults seen.new.write_faults

-- ---- from the values of the program

-- the outside that is a host
abbrev pub outside_of : {S : Type 0} → host.Ghosts S → S → Outside
outside_of H h = record {
  files = H.files h;
  left = H.left h;
  main = H.pushed h Main;
  notes = H.pushed h Notes;
  read_faults = H.read_faults h;
  write_faults = H.write_faults h;
}

-- the boxes of a list, before and after
abbrev pub boxes_of : {X Z : Type 0} {F : X → Type 0} → ((vtable : X) → plugin.Ghosts (F vtable)) → (old new : Vec (DynBox X Z F) Z) → Boxes (DynBox X Z F)
boxes_of members old new = record {
  kind = λ b. (members b.vtable).kind b.value;
  taken = λ b. (members b.vtable).taken b.value;
  now = λ b. (members b.vtable).spec_now b.value;
  fault = λ b e. (members b.vtable).first_fault b.value e;
  spec = λ b e. (members b.vtable).spec_taken b.value e;
  builds = λ b plan part. (members b.vtable).builds b.value plan part;
  builds_for = λ b e plan part. (members b.vtable).builds_for b.value e plan part;
  old = old.items;
  new = new.items;
}

-- a call of this form, over these boxes and on this host
abbrev pub seen_as : {S X Z : Type 0} {F : X → Type 0} → Option Form → host.Ghosts S → ((vtable : X) → plugin.Ghosts (F vtable))
    → (boxes boxes' : Vec (DynBox X Z F) Z) → (host host' : S) → Seen (DynBox X Z F)
seen_as form H members boxes boxes' h h' = record {
  call = record { form = form; files = H.files h; boxes = boxes_of members boxes boxes' };
  old = outside_of H h;
  new = outside_of H h';
}

-- a call with these words
abbrev pub seen_of : {S X Z : Type 0} {F : X → Type 0} → (words : Vec (String Global) Global) → host.Ghosts S
    → ((vtable : X) → plugin.Ghosts (F vtable)) → (boxes boxes' : Vec (DynBox X Z F) Z) → (host host' : S) → Seen (DynBox X Z F)
seen_of words H members boxes boxes' h h' = seen_as (form_of (words_of words)) H members boxes boxes' h h'

-- P holds of each call with such boxes
abbrev pub ForEachCall : {X : Type 0} {F : X → Type 0} → ((vtable : X) → plugin.Ghosts (F vtable)) → (P : Seen (DynBox X Global F) → Type 0) → Type 0
ForEachCall {X = X} {F = F} members P =
    (form : Option Form) (files : Option Files) (boxes boxes' : Vec (DynBox X Global F) Global) (old new : Outside)
    → P (record { call = record { form = form; files = files; boxes = boxes_of members boxes boxes' }; old = old; new = new })
