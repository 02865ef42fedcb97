-- What a call pulled in all, from what its parts pulled.
use Rattle.std.proofs.Common.{◌≡◌, ◌≤◌, ◌⊎◌, inl, inr, ℕ, List, Option, Some, refl, ◌∙◌, subst, arith}
use Rattle.std.proofs.lemmas.Bool.{cases_lt}
use Rattle.core_host.specs.Outside.{Files}
use Rattle.stage_map.specs.declared.config.Config.{Config}
use Rattle.core_tool.specs.Words.{Form}
use Rattle.core_tool.specs.Call.{Boxes, Call, Outside, Seen}
use Rattle.core_tool.specs.Boxes.{RulesHold}
use Rattle.core_tool.specs.Files.{Gives, Pulled, PulledUnlessFault, config_name, image_name}
use Rattle.core_tool.specs.Parts.{PulledOne}
use Rattle.core_tool.proofs.Calls.{Rose-earlier, PulledUnlessFault-later}

pub pulled_config : {B : Type 0} (seen : Seen B) (name : List ℕ) (mid : ℕ → List ℕ) (between : ℕ) → config_name seen.call.form ≡ Some name
    → ((m : ℕ) → seen.new.left m ≡ mid m) → between ≤ seen.new.read_faults
    → PulledOne 1048577 name seen.call.files seen.old.left mid seen.old.read_faults between → Pulled seen
pulled_config seen name mid between named same less (inl none) = inl (λ m. same m ∙ none m)
pulled_config seen name mid between named same less (inr (n, others, few)) = inr (inl (record {
  name = name;
  n = n;
  is_name = named;
  others = λ m other. same m ∙ others m other;
  few = PulledUnlessFault-later 1048577 name seen.call.files (mid n) (seen.new.left n) seen.old.read_faults between seen.new.read_faults (same n) less few;
}))

-- two numbers are the same or not
same_or_not : (n m : ℕ) → (n ≡ m) ⊎ (n ≡ m → ⊥)
same_or_not n m = elim (cases_lt n m) [
  | inl less ↦ inr (λ e. omega (arith, e, less))
  | inr most ↦ elim (cases_lt m n) [ inl less ↦ inr (λ e. omega (arith, e, less)) | inr least ↦ inl (omega (arith, most, least)) ]
]

earlier : (most : ℕ) (name : List ℕ) (files : Option Files) (left : List ℕ) (before mid now : ℕ) → before ≤ mid
    → PulledUnlessFault most name files left mid now → PulledUnlessFault most name files left before now
earlier most name files left before mid now less (inl rose) = inl (Rose-earlier before mid now less rose)
earlier most name files left before mid now less (inr few) = inr few

pub pulled_both : {B : Type 0} (seen : Seen B) (name image : List ℕ) (c : Config) (mid : ℕ → List ℕ) (between : ℕ)
    → config_name seen.call.form ≡ Some name → image_name seen.call.form ≡ Some image → Gives seen.call c → RulesHold seen.call.form seen.call.boxes c
    → seen.old.read_faults ≤ between → between ≤ seen.new.read_faults
    → PulledOne 1048577 name seen.call.files seen.old.left mid seen.old.read_faults between
    → PulledOne 67108865 image seen.call.files mid seen.new.left between seen.new.read_faults → Pulled seen
pulled_both seen name image c mid between first second gives rules less more one (inl none) =
    pulled_config seen name mid between first none more one
pulled_both seen name image c mid between first second gives rules less more (inl none) (inr (m, others, few)) = inr (inr (record {
  name = name;
  image = image;
  n = m;
  m = m;
  is_name = first;
  is_image = second;
  config = c;
  gives = gives;
  rules = rules;
  others = λ k other other'. others k other' ∙ none k;
  few = inl refl;
  few_of_image = earlier 67108865 image seen.call.files (seen.new.left m) seen.old.read_faults between seen.new.read_faults less few;
}))
pulled_both seen name image c mid between first second gives rules less more (inr (n, others, few)) (inr (m, others', few')) = inr (inr (record {
  name = name;
  image = image;
  n = n;
  m = m;
  is_name = first;
  is_image = second;
  config = c;
  gives = gives;
  rules = rules;
  others = λ k other other'. others' k other' ∙ others k other;
  few = elim (same_or_not n m) [
    | inl same ↦ inl same
    | inr other ↦ inr (PulledUnlessFault-later 1048577 name seen.call.files (mid n) (seen.new.left n) seen.old.read_faults between seen.new.read_faults (others' n other) more few)
  ];
  few_of_image = earlier 67108865 image seen.call.files (seen.new.left m) seen.old.read_faults between seen.new.read_faults less few';
}))

-- ---- later

module _ {B : Type 0} (call : Call B) (old new new' : Outside) where
  abbrev before : Seen B
  before = record { call = call; old = old; new = new }

  abbrev after : Seen B
  after = record { call = call; old = old; new = new' }

  pub pulled_later : ((m : ℕ) → new'.left m ≡ new.left m) → new.read_faults ≤ new'.read_faults → Pulled before → Pulled after
  pulled_later same less (inl none) = inl (λ m. same m ∙ none m)
  pulled_later same less (inr (inl p)) = inr (inl (record {
    name = p.name;
    n = p.n;
    is_name = p.is_name;
    others = λ m other. same m ∙ p.others m other;
    few = PulledUnlessFault-later 1048577 p.name call.files (new.left p.n) (new'.left p.n) old.read_faults new.read_faults new'.read_faults (same p.n) less p.few;
  }))
  pulled_later same less (inr (inr p)) = inr (inr (record {
    name = p.name;
    image = p.image;
    n = p.n;
    m = p.m;
    is_name = p.is_name;
    is_image = p.is_image;
    config = p.config;
    gives = p.gives;
    rules = p.rules;
    others = λ k other other'. same k ∙ p.others k other other';
    few = elim p.few [
      | inl one ↦ inl one
      | inr few ↦ inr (PulledUnlessFault-later 1048577 p.name call.files (new.left p.n) (new'.left p.n) old.read_faults new.read_faults new'.read_faults (same p.n) less few)
    ];
    few_of_image = PulledUnlessFault-later 67108865 p.image call.files (new.left p.m) (new'.left p.m) old.read_faults new.read_faults new'.read_faults (same p.m) less p.few_of_image;
  }))

-- the words are of this form
pub pulled_for : {B : Type 0} (named form : Option Form) (files : Option Files) (boxes : Boxes B) (old new : Outside) → named ≡ form
    → Pulled (record { call = record { form = named; files = files; boxes = boxes }; old = old; new = new })
    → Pulled (record { call = record { form = form; files = files; boxes = boxes }; old = old; new = new })
pulled_for named form files boxes old new is h =
    subst (λ f. Pulled (record { call = record { form = f; files = files; boxes = boxes }; old = old; new = new })) is h
