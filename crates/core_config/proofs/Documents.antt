-- What bytes say: too many, no text, or a document.
use Rattle.std.proofs.Common.{◌≡◌, ◌≤◌, ◌<◌, ℕ, nat_lt, List, length, Option, None, Err, Bool, true, false, if◌then◌else◌, refl, arith}
use Rattle.std.specs.Str.{IsUtf8, is_utf8}
use Rattle.std.proofs.lemmas.Bool.{lt-ltb}
use Rattle.std.proofs.lemmas.Bool.Decides.{nat_tests}
use Rattle.std.proofs.lemmas.Str.{IsUtf8-from_is_utf8, is_utf8-from_IsUtf8}
use Rattle.toml.specs.Data.{Members}
use Rattle.toml.specs.Parse.{parse_document}
use Rattle.core_config.specs.declared.refusal.ConfigRefusal.TheVariants.{TooLong, Text}
use Rattle.core_config.specs.Config.{config_of, config_of_document}

pub config_of-long : (bytes : List ℕ) → 1048576 < length bytes → config_of bytes ≡ Err (TooLong (length bytes))
unfolding config_of
config_of-long bytes long = rw (lt-ltb _ _ long)

pub config_of-text : (bytes : List ℕ) (d : Option Members) → length bytes ≤ 1048576 → IsUtf8 bytes → parse_document bytes ≡ d
    → config_of bytes ≡ config_of_document d
unfolding config_of
config_of-text bytes d short text e =
    let test : nat_lt 1048576 (length bytes) ≡ false = grind (arith, nat_tests) in
    rw (test, is_utf8-from_IsUtf8 bytes text, e)

pub config_of-no_text : (bytes : List ℕ) → length bytes ≤ 1048576 → (IsUtf8 bytes → parse_document bytes ≡ None)
    → config_of bytes ≡ Err Text
unfolding config_of
config_of-no_text bytes short none =
    let test : nat_lt 1048576 (length bytes) ≡ false = grind (arith, nat_tests) in
    let by : (b : Bool) → is_utf8 bytes ≡ b → (if is_utf8 bytes then config_of_document (parse_document bytes) else Err Text) ≡ Err Text
    = λ b. elim b as (λ b. is_utf8 bytes ≡ b → (if is_utf8 bytes then config_of_document (parse_document bytes) else Err Text) ≡ Err Text) [
      | true ↦ λ e. rw (e, none (IsUtf8-from_is_utf8 bytes e))
      | false ↦ λ e. rw e
    ] in
    rw test (by (is_utf8 bytes) refl)
