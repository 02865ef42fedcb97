use Rattle.std.proofs.Common.{◌≡◌, ◌<◌, ◌≤◌, true, length, sym, ◌∙◌, arith, w64, to_z, pos}
use Rattle.std.proofs.lemmas.Int.{to_z_pos}
use Rattle.toml.specs.View.{array_view}
use Rattle.core_config.specs.Config.{are_tables}
use Rattle.core_config.proofs.EntryLemmas.{array_many, array_few}
use Rattle.core_config.proofs.entries.read_array.Goals as goal

pub returns-then-len-gt-MOST_ENTRIES : goal.returns-then-len-gt-MOST_ENTRIES
returns-then-len-gt-MOST_ENTRIES c =
    let vs = c.args.array.now.items in
    let tables : are_tables (array_view c.args.array.now) ≡ true = sym c.are_tables.ensures ∙ c.if-not-are_tables.false in
    let ok = c.args.array.now.ok in
    let small = c.args.array.now.small in
    let n = c.len-then-len-gt-MOST_ENTRIES.result in
    let count : n ≡ length vs = omega (arith, ok.0) in
    let many : 32 < length vs = omega (arith, ok.0) in
    let signed : to_z w64 n ≡ pos n = to_z_pos w64 n (omega (arith, ok.0, ok.1, small)) in
    array_many vs n _ c.number_refusal.result tables many count signed c.number_refusal.ensures

pub returns : goal.returns
returns c =
    let vs = c.args.array.now.items in
    let tables : are_tables (array_view c.args.array.now) ≡ true = sym c.are_tables.ensures ∙ c.if-not-are_tables.false in
    let few : length vs ≤ 32 = omega (arith, c.args.array.now.ok.0) in
    array_few vs c.read_entries.result tables few c.read_entries.ensures
