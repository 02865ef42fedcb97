-- The parts of a call, from what was read and pulled.
use Rattle.std.proofs.Common.{◌≡◌, ◌≤◌, ◌<◌, ◌+◌, ◌⊎◌, inl, inr, ◌++◌, ℕ, nat_lt, List, length, Option, Some, None, Result, Ok, Err, false, refl, sym, ap, ◌∙◌, subst, append-nil, arith, length-append}
use Rattle.std.proofs.lemmas.Bool.{cases_lt, lt-ltb}
use Rattle.std.proofs.lemmas.Bool.Decides.{nat_tests}
use Rattle.core_host.specs.Outside.{Files, Rose, IsRead, PulledAtMost, held}
use Rattle.stage_map.specs.declared.config.MemShape.{MemShape}
use Rattle.stage_map.specs.declared.config.Config.{Config}
use Rattle.core_config.specs.declared.refusal.ConfigRefusal.{ConfigRefusal}
use Rattle.core_config.specs.declared.refusal.ConfigRefusal.TheVariants.{NoMemory, TooLong as TooLongConfig}
use Rattle.core_config.specs.Config.{IsAnswer, config_of}
use Rattle.core_tool.specs.declared.ends.ImageFault.{ImageFault}
use Rattle.core_tool.specs.declared.ends.ImageFault.TheVariants.{TooLong, Outside}
use Rattle.core_tool.specs.Lines.{refusal_line}
use Rattle.core_tool.specs.Files.{IsFile, PulledUnlessFault, image_fault}
use Rattle.core_tool.specs.Parts.{ForBytes, IsRefusedWith}

-- an answer that is a configuration, or a refusal other than a lack of memory, is what the bytes say
pub answer_ok : (p : Result Config ConfigRefusal) (c : Config) → IsAnswer (Ok c) p → p ≡ Ok c
answer_ok p c (inl h) = sym h
answer_ok p c (inr h) = cc

pub answer_refused : (p : Result Config ConfigRefusal) (refusal : ConfigRefusal) → (refusal ≡ NoMemory → ⊥) → IsAnswer (Err refusal) p → p ≡ Err refusal
answer_refused p refusal other (inl h) = sym h
answer_refused p refusal other (inr h) = absurd (other cc)

-- ---- the configuration

config_of-long : (bytes : List ℕ) → 1048576 < length bytes → config_of bytes ≡ Err (TooLongConfig (length bytes))
unfolding config_of
config_of-long bytes long = rw (lt-ltb _ _ long)

-- what was read up to one byte past the limit is the file, or both are too long
whole_file : (name : List ℕ) (files : Option Files) (read : List ℕ) → IsRead 1048576 name files read
    → (bytes : List ℕ) × IsFile name files bytes × ((bytes ≡ read) ⊎ ((1048576 < length read) × (1048576 < length bytes)))
whole_file name None read h = (read, tt, inl refl)
whole_file name (Some files) read (rest, held, ends) =
    let grows = length-append read rest in
    elim (cases_lt 1048576 (length read)) [
      | inl long ↦ (read ++ rest, held, inr (long, omega (arith, grows, long)))
      | inr short ↦ (read ++ rest, held, inl (ap (λ l. read ++ l) (ends short) ∙ append-nil read))
    ]

pub config_given : (name : List ℕ) (files : Option Files) (read : List ℕ) (c : Config) → IsRead 1048576 name files read
    → IsAnswer (Ok c) (config_of read) → ForBytes name files (λ bytes. config_of bytes ≡ Ok c)
config_given name files read c h answer =
    let w = whole_file name files read h in
    let e = answer_ok (config_of read) c answer in
    elim w.2 [
      | inl same ↦ (w.0, w.1, ap config_of same ∙ e)
      | inr long ↦ let other = config_of-long read long.0 in cc
    ]

pub config_refused : (name : List ℕ) (files : Option Files) (read : List ℕ) (refusal : ConfigRefusal) → IsRead 1048576 name files read
    → (refusal ≡ NoMemory → ⊥) → IsAnswer (Err refusal) (config_of read) → ForBytes name files (IsRefusedWith refusal)
config_refused name files read refusal h other answer =
    let w = whole_file name files read h in
    let e = answer_refused (config_of read) refusal other answer in
    elim w.2 [
      | inl same ↦ (w.0, w.1, (refusal, ap config_of same ∙ e, refl))
      | inr long ↦
          let both : Err (TooLongConfig (length read)) ≡ Err refusal = sym (config_of-long read long.0) ∙ e in
          let is : TooLongConfig (length read) ≡ refusal = cc in
          (w.0, w.1, (TooLongConfig (length w.0), config_of-long w.0 long.1, ap refusal_line is))
    ]

-- ---- the image

pub image_fault-long : (mem : MemShape) (bytes : List ℕ) → 67108864 < length bytes → image_fault mem bytes ≡ Some TooLong
unfolding image_fault
image_fault-long mem bytes long = rw (lt-ltb _ _ long)

pub image_fault-outside : (mem : MemShape) (bytes : List ℕ) → length bytes ≤ 67108864 → mem.size < length bytes
    → image_fault mem bytes ≡ Some (Outside (mem.base + mem.size))
unfolding image_fault
image_fault-outside mem bytes short long =
    let test : nat_lt 67108864 (length bytes) ≡ false = grind (arith, nat_tests) in
    rw (test, lt-ltb _ _ long)

pub image_fault-fits : (mem : MemShape) (bytes : List ℕ) → mem.size ≤ 16777216 → length bytes ≤ mem.size → image_fault mem bytes ≡ None
unfolding image_fault
image_fault-fits mem bytes small short =
    let first : nat_lt 67108864 (length bytes) ≡ false = grind (arith, nat_tests) in
    let second : nat_lt mem.size (length bytes) ≡ false = grind (arith, nat_tests) in
    rw (first, second)

pub whole_image : (mem : MemShape) (name : List ℕ) (files : Option Files) (read : List ℕ) → IsRead 67108864 name files read
    → (bytes : List ℕ) × IsFile name files bytes × (image_fault mem bytes ≡ image_fault mem read)
whole_image mem name None read h = (read, tt, refl)
whole_image mem name (Some files) read (rest, held, ends) =
    let grows = length-append read rest in
    let same : image_fault mem (read ++ rest) ≡ image_fault mem read = elim (cases_lt 67108864 (length read)) [
      | inl long ↦ image_fault-long mem (read ++ rest) (omega (arith, grows, long)) ∙ sym (image_fault-long mem read long)
      | inr short ↦ ap (λ l. image_fault mem (read ++ l)) (ends short) ∙ ap (image_fault mem) (append-nil read)
    ] in
    (read ++ rest, held, same)

pub image_refused : (mem : MemShape) (name : List ℕ) (files : Option Files) (read : List ℕ) (fault : ImageFault) → IsRead 67108864 name files read
    → image_fault mem read ≡ Some fault → ForBytes name files (λ bytes. image_fault mem bytes ≡ Some fault)
image_refused mem name files read fault h e =
    let w = whole_image mem name files read h in
    (w.0, w.1, w.2 ∙ e)

-- an image that fits was read whole
pub short_image : (name : List ℕ) (files : Option Files) (read : List ℕ) (size : ℕ) → IsRead 67108864 name files read → length read ≤ size → size ≤ 16777216 → IsFile name files read
short_image name None read size h short small = tt
short_image name (Some files) read size (rest, held, ends) short small =
    held ∙ ap (λ l. Some (read ++ l)) (ends (omega arith)) ∙ ap Some (append-nil read)

-- ---- counts of faults

-- a fault after more faults is one after fewer
pub Rose-earlier : (before mid now : ℕ) → before ≤ mid → Rose mid now → Rose before now
Rose-earlier before mid now less rose = omega (arith, less, rose)

pub Rose-later : (before mid now : ℕ) → Rose before mid → mid ≤ now → Rose before now
Rose-later before mid now rose less = omega (arith, rose, less)

-- ---- what was pulled

pub PulledUnlessFault-later : (most : ℕ) (name : List ℕ) (files : Option Files) (left left' : List ℕ) (before now now' : ℕ) → left' ≡ left → now ≤ now'
    → PulledUnlessFault most name files left before now → PulledUnlessFault most name files left' before now'
PulledUnlessFault-later most name files left left' before now now' same less (inl rose) = inl (Rose-later before now now' rose less)
PulledUnlessFault-later most name files left left' before now now' same less (inr few) = inr (subst (λ l. PulledAtMost most name files l) (sym same) few)
