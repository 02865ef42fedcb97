-- Pieces that are pushed one by one.
use Rattle.std.proofs.Common.{◌≡◌, ◌<◌, ◌≤◌, ◌+◌, ℕ, suc, List, [], ◌++◌, length, get_or, drop, Option, Some, None, refl, sym, ap, ◌∙◌, subst, append-nil, append_assoc, arith}
use Rattle.std.proofs.Math.Seq.{drop-cons}
use Rattle.std.proofs.lemmas.List.{drop_all}
use Rattle.core_host.specs.Outside.{Appends, IsCut, grown}
use Rattle.core_tool.proofs.Pushes.{Appends-append, IsCut-append, IsCut-after}
use Rattle.core_tool.specs.declared.lines.Piece.{Piece}
use Rattle.core_tool.specs.Pieces.{joined, piece_bytes}

pub grown-nil : (old : Option (List ℕ)) → grown old [] ≡ old
grown-nil None = refl
grown-nil (Some bytes) = ap Some (append-nil bytes)

-- a port got all but the rest
pub record Pushed (old now : Option (List ℕ)) (all rest : List ℕ) : Type 0 where
  before : List ℕ
  appended : Appends old before now
  whole : all ≡ before ++ rest

pub Pushed-init : (old : Option (List ℕ)) (all : List ℕ) → Pushed old old all all
Pushed-init old all = record { before = []; appended = sym (grown-nil old); whole = refl }

-- the pieces from a place on are that one and the others
joined_at : (pieces : List Piece) (i : ℕ) (d : Piece) → i < length pieces → joined (drop i pieces) ≡ piece_bytes (get_or pieces i d) ++ joined (drop (i + 1) pieces)
joined_at pieces i d less =
    let next : suc i ≡ i + 1 = omega arith in
    ap joined (drop-cons pieces i d less) ∙ ap (λ j. piece_bytes (get_or pieces i d) ++ joined (drop j pieces)) next

pub joined_end : (pieces : List Piece) (i : ℕ) → length pieces ≤ i → joined (drop i pieces) ≡ []
joined_end pieces i done = ap joined (drop_all i pieces done)

pub Pushed-step : (old now new : Option (List ℕ)) (pieces : List Piece) (i : ℕ) (d : Piece) → i < length pieces
    → Pushed old now (joined pieces) (joined (drop i pieces)) → Appends now (piece_bytes (get_or pieces i d)) new
    → Pushed old new (joined pieces) (joined (drop (i + 1) pieces))
Pushed-step old now new pieces i d less p a = record {
  before = p.before ++ piece_bytes (get_or pieces i d);
  appended = Appends-append old now new p.before (piece_bytes (get_or pieces i d)) p.appended a;
  whole = p.whole ∙ ap (λ l. p.before ++ l) (joined_at pieces i d less)
      ∙ sym (append_assoc p.before (piece_bytes (get_or pieces i d)) (joined (drop (i + 1) pieces)));
}

pub Pushed-cut : (old now new : Option (List ℕ)) (pieces : List Piece) (i : ℕ) (d : Piece) → i < length pieces
    → Pushed old now (joined pieces) (joined (drop i pieces)) → IsCut now (piece_bytes (get_or pieces i d)) new → IsCut old (joined pieces) new
Pushed-cut old now new pieces i d less p cut =
    let rest = joined (drop (i + 1) pieces) in
    let text = p.whole ∙ ap (λ l. p.before ++ l) (joined_at pieces i d less) in
    subst (λ l. IsCut old l new) (sym text)
    (IsCut-after old now new p.before (piece_bytes (get_or pieces i d) ++ rest) p.appended (IsCut-append now new (piece_bytes (get_or pieces i d)) rest cut))

pub Pushed-end : (old now : Option (List ℕ)) (all rest : List ℕ) → rest ≡ [] → Pushed old now all rest → Appends old all now
Pushed-end old now all rest e p = p.appended ∙ ap (grown old) (sym (p.whole ∙ ap (λ l. p.before ++ l) e ∙ append-nil p.before))
