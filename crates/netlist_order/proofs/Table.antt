-- The rank of a name: how many marked nodes and forward wires come before it, by levels, and nodes behind wires of the same
-- level by number. An output that is driven is behind them all.
use Rattle.std.proofs.Common.{◌≡◌, ℕ, zero, suc, ◌+◌, ◌*◌, ◌<◌, ◌≤◌, Bool, true, false, eqb, List, [], length, get_or, Option, Some, None, refl, ap, ◌∙◌, arith}
use Rattle.std.proofs.Math.Nat.{mul-le-mul_right}
use Rattle.std.proofs.lemmas.Bool.Decides.{nat_tests}
use Rattle.core_words.specs.Names.{same_name}
use Rattle.verilog_mean.specs.Look.{pick, pick_if, look, or_else}
use Rattle.hw_pool.specs.declared.node.Node.{Node}
use Rattle.hw_pool.specs.Trees.{tree_of}
use Rattle.hw_expr.specs.declared.net.Net.{Net}
use Rattle.hw_module.specs.Rows.{ModuleValue, wire_at, out_at}
use Rattle.hw_module.specs.Reached.{top_of}
use Rattle.module_netlist.specs.Names.{Thing, ThingIn, name_in, same_thing, node_name, wire_name, reg_name, port_name}
use Rattle.module_netlist.specs.Names.Thing.{NodeAt, WireAt, RegAt, PortAt}
use Rattle.module_netlist.specs.Lines.{spread}
use Rattle.module_netlist.proofs.Looks.{given, Misses, Gives, look_put, skip, hit}
use Rattle.netlist_order.proofs.Before.{before, total, first_before, second_before, first_total, second_total}

abbrev pub Entry : Type 0
Entry = List ℕ × ℕ

abbrev itself : Entry → Option (List ℕ × ℕ)
itself e = Some e

abbrev pub entry_if : Bool → Entry → Option Entry
entry_if true e = Some e
entry_if false e = None

if_misses : (b : Bool) (e : Entry) (x : List ℕ) → same_name e.0 x ≡ false → Misses (given itself (entry_if b e)) x
if_misses true e x h = h
if_misses false e x h = tt

if_gives : (b : Bool) (e : Entry) (x : List ℕ) → b ≡ true → same_name e.0 x ≡ true → Gives (given itself (entry_if b e)) x e.1
if_gives true e x t h = (h, refl)
if_gives false e x t h = absurd (grind arith)

equal : (k : ℕ) → eqb k k ≡ true
equal k = grind (arith, nat_tests)

lex : (a b n k l : ℕ) → a < b → k < n → a * n + k < b * n + l
lex a b n k l h i = let e : suc a * n ≤ b * n = mul-le-mul_right n h in grind arith

level_le : (a b n k l : ℕ) → a ≤ b → k < l → a * n + k < b * n + l
level_le a b n k l h i = let e : a * n ≤ b * n = mul-le-mul_right n h in omega arith

-- the rank of a port is 0 where it has no driver
unfoldable pub out_rank : (above : ℕ) → Option Net → ℕ
out_rank above None = 0
out_rank above (Some net) = suc above

module _ (m : ModuleValue) (nodes : List Node) (marks : List Bool) where
  abbrev pub mark : ℕ → Bool
  mark k = get_or marks k false

  abbrev pub node_top : ℕ → ℕ
  node_top k = top_of m.wires (tree_of nodes k)

  unfoldable pub node_key : ℕ → ℕ
  node_key k = node_top k * (length nodes + 2) + (k + 1)

  unfoldable pub wire_key : ℕ → ℕ
  wire_key w = (wire_at m.wires w).level * (length nodes + 2) + 0

  abbrev pub place : ℕ → ℕ
  place key = before mark node_key wire_key (length nodes) (length m.wires) key

  abbrev pub places : ℕ
  places = total mark node_key wire_key (length nodes) (length m.wires)

  abbrev pub node_entry : ℕ → Option Entry
  node_entry k = entry_if (mark k) (node_name k, suc (place (node_key k)))

  abbrev pub wire_entry : ℕ → Option Entry
  wire_entry w = Some (wire_name m w, suc (place (wire_key w)))

  abbrev pub port_entry : ℕ → Option Entry
  port_entry p = Some (port_name p, out_rank places (out_at m.outs p))

  abbrev from_ports : List Entry
  from_ports = spread port_entry 0 30 []

  abbrev from_wires : List Entry
  from_wires = spread wire_entry 0 (length m.wires) from_ports

  unfoldable pub rank : List ℕ → ℕ
  rank x = or_else (look itself (spread node_entry 0 (length nodes) from_wires) x) 0

  -- ---- keys

  pub node_below_node : (c k : ℕ) → node_top c ≤ node_top k → c < k → node_key c < node_key k
  unfolding node_key
  node_below_node c k h l = level_le (node_top c) (node_top k) (length nodes + 2) (c + 1) (k + 1) h (omega arith)

  pub wire_below_node : (w k : ℕ) → (wire_at m.wires w).level ≤ node_top k → wire_key w < node_key k
  unfolding node_key wire_key
  wire_below_node w k h = level_le (wire_at m.wires w).level (node_top k) (length nodes + 2) 0 (k + 1) h (omega arith)

  pub node_below_wire : (k w : ℕ) → k < length nodes → node_top k < (wire_at m.wires w).level → node_key k < wire_key w
  unfolding node_key wire_key
  node_below_wire k w l h = lex (node_top k) (wire_at m.wires w).level (length nodes + 2) (k + 1) 0 h (omega arith)

  -- ---- ranks of things

  module _ (names : (a b : Thing) → ThingIn m nodes a → ThingIn m nodes b → same_name (name_in m a) (name_in m b) ≡ same_thing a b) where
    pub node_rank : (k : ℕ) → k < length nodes → mark k ≡ true → rank (node_name k) ≡ suc (place (node_key k))
    unfolding rank
    node_rank k h e =
        ap (λ o. or_else o 0)
        (hit itself node_entry from_wires (node_name k) (length nodes) k (suc (place (node_key k))) h
        (if_gives (mark k) (node_name k, suc (place (node_key k))) (node_name k) e (names (NodeAt k) (NodeAt k) h h ∙ equal k))
        (λ j l d. if_misses (mark j) (node_name j, suc (place (node_key j))) (node_name k) (names (NodeAt j) (NodeAt k) l h ∙ d)))

    -- no node has the name
    past_nodes : (x : List ℕ) → ((j : ℕ) → j < length nodes → same_name (node_name j) x ≡ false)
        → look itself (spread node_entry 0 (length nodes) from_wires) x ≡ look itself from_wires x
    past_nodes x all = skip itself node_entry from_wires x (length nodes) (λ j l. if_misses (mark j) (node_name j, suc (place (node_key j))) x (all j l))

    pub wire_rank : (w : ℕ) → w < length m.wires → rank (wire_name m w) ≡ suc (place (wire_key w))
    unfolding rank
    wire_rank w h =
        ap (λ o. or_else o 0)
        (past_nodes (wire_name m w) (λ j l. names (NodeAt j) (WireAt w) l h)
        ∙ hit itself wire_entry from_ports (wire_name m w) (length m.wires) w (suc (place (wire_key w))) h
        ((names (WireAt w) (WireAt w) h h ∙ equal w), refl)
        (λ j l d. names (WireAt j) (WireAt w) l h ∙ d))

    pub port_rank : (p : ℕ) → p < 30 → rank (port_name p) ≡ out_rank places (out_at m.outs p)
    unfolding rank
    port_rank p h =
        ap (λ o. or_else o 0)
        (past_nodes (port_name p) (λ j l. names (NodeAt j) (PortAt p) l h)
        ∙ skip itself wire_entry from_ports (port_name p) (length m.wires) (λ j l. names (WireAt j) (PortAt p) l h)
        ∙ hit itself port_entry [] (port_name p) 30 p (out_rank places (out_at m.outs p)) h
        ((names (PortAt p) (PortAt p) h h ∙ equal p), refl)
        (λ j l d. names (PortAt j) (PortAt p) l h ∙ d))

    pub reg_rank : (r : ℕ) → r < length m.regs → rank (reg_name m r) ≡ 0
    unfolding rank
    reg_rank r h =
        ap (λ o. or_else o 0)
        (past_nodes (reg_name m r) (λ j l. names (NodeAt j) (RegAt r) l h)
        ∙ skip itself wire_entry from_ports (reg_name m r) (length m.wires) (λ j l. names (WireAt j) (RegAt r) l h)
        ∙ skip itself port_entry [] (reg_name m r) 30 (λ j l. names (PortAt j) (RegAt r) l h))

    -- ---- what is below what

    pub node_node : (c k : ℕ) → c < length nodes → k < length nodes → mark c ≡ true → mark k ≡ true → node_top c ≤ node_top k → c < k
        → rank (node_name c) < rank (node_name k)
    node_node c k l h d e t below =
        let p : rank (node_name c) ≡ suc (place (node_key c)) = node_rank c l d in
        let q : rank (node_name k) ≡ suc (place (node_key k)) = node_rank k h e in
        let b : place (node_key c) < place (node_key k) =
        first_before mark node_key wire_key (length nodes) (length m.wires) c (node_key k) l d (node_below_node c k t below) in
        omega arith

    pub wire_node : (w k : ℕ) → w < length m.wires → k < length nodes → mark k ≡ true → (wire_at m.wires w).level ≤ node_top k
        → rank (wire_name m w) < rank (node_name k)
    wire_node w k l h e t =
        let p : rank (wire_name m w) ≡ suc (place (wire_key w)) = wire_rank w l in
        let q : rank (node_name k) ≡ suc (place (node_key k)) = node_rank k h e in
        let b : place (wire_key w) < place (node_key k) =
        second_before mark node_key wire_key (length nodes) (length m.wires) w (node_key k) l (wire_below_node w k t) in
        omega arith

    pub node_wire : (k w : ℕ) → k < length nodes → w < length m.wires → mark k ≡ true → node_top k < (wire_at m.wires w).level
        → rank (node_name k) < rank (wire_name m w)
    node_wire k w h l e t =
        let p : rank (wire_name m w) ≡ suc (place (wire_key w)) = wire_rank w l in
        let q : rank (node_name k) ≡ suc (place (node_key k)) = node_rank k h e in
        let b : place (node_key k) < place (wire_key w) =
        first_before mark node_key wire_key (length nodes) (length m.wires) k (wire_key w) h e (node_below_wire k w h t) in
        omega arith

    pub reg_node : (r k : ℕ) → r < length m.regs → k < length nodes → mark k ≡ true → rank (reg_name m r) < rank (node_name k)
    reg_node r k l h e =
        let p : rank (reg_name m r) ≡ 0 = reg_rank r l in
        let q : rank (node_name k) ≡ suc (place (node_key k)) = node_rank k h e in
        omega arith

    pub port_node : (p k : ℕ) → p < 30 → k < length nodes → mark k ≡ true → out_at m.outs p ≡ None → rank (port_name p) < rank (node_name k)
    unfolding out_rank
    port_node p k l h e none =
        let r : rank (port_name p) ≡ 0 = port_rank p l ∙ ap (out_rank places) none in
        let q : rank (node_name k) ≡ suc (place (node_key k)) = node_rank k h e in
        omega arith

    pub node_port : (k p : ℕ) (net : Net) → k < length nodes → p < 30 → mark k ≡ true → out_at m.outs p ≡ Some net → rank (node_name k) < rank (port_name p)
    unfolding out_rank
    node_port k p net h l e is =
        let r : rank (port_name p) ≡ suc places = port_rank p l ∙ ap (out_rank places) is in
        let q : rank (node_name k) ≡ suc (place (node_key k)) = node_rank k h e in
        let b : place (node_key k) < places = first_total mark node_key wire_key (length nodes) (length m.wires) k h e in
        omega arith

  -- ---- a bound on ranks

  abbrev Within : (bound : ℕ) → Option Entry → Type 0
  Within bound None = Unit {0}
  Within bound (Some e) = e.1 ≤ bound

  if_within : (bound : ℕ) (e : Entry) (x : List ℕ) (rest : Option ℕ) → e.1 ≤ bound → or_else rest 0 ≤ bound → (b : Bool) → or_else (pick_if b e.1 rest) 0 ≤ bound
  if_within bound e x rest h k true = h
  if_within bound e x rest h k false = k

  pick_within : (bound : ℕ) (o : Option Entry) (x : List ℕ) (rest : Option ℕ) → Within bound o → or_else rest 0 ≤ bound → or_else (pick (given itself o) x rest) 0 ≤ bound
  pick_within bound None x rest h k = k
  pick_within bound (Some e) x rest h k = if_within bound e x rest h k (same_name e.0 x)

  spread_within : (bound : ℕ) (f : ℕ → Option Entry) (rest : List Entry) (x : List ℕ) (n k : ℕ) → ((i : ℕ) → k ≤ i → i < k + n → Within bound (f i))
      → or_else (look itself rest x) 0 ≤ bound → or_else (look itself (spread f k n rest) x) 0 ≤ bound
  spread_within bound f rest x zero k all h = h
  spread_within bound f rest x (suc n) k all h =
      let e : or_else (look itself (spread f k (suc n) rest) x) 0 ≡ or_else (pick (given itself (f k)) x (look itself (spread f (suc k) n rest) x)) 0 =
      ap (λ o. or_else o 0) (look_put itself (f k) (spread f (suc k) n rest) x) in
      let l : or_else (pick (given itself (f k)) x (look itself (spread f (suc k) n rest) x)) 0 ≤ bound =
      pick_within bound (f k) x (look itself (spread f (suc k) n rest) x) (all k (omega arith) (omega arith))
      (spread_within bound f rest x n (suc k) (λ i a b. all i (omega arith) (omega arith)) h) in
      omega arith

  node_within : (bound k : ℕ) → k < length nodes → places ≤ bound → (b : Bool) → mark k ≡ b → Within bound (entry_if b (node_name k, suc (place (node_key k))))
  node_within bound k h l true e =
      let a : place (node_key k) < places = first_total mark node_key wire_key (length nodes) (length m.wires) k h e in
      omega arith
  node_within bound k h l false e = tt

  wire_within : (bound w : ℕ) → w < length m.wires → places ≤ bound → suc (place (wire_key w)) ≤ bound
  wire_within bound w h l =
      let a : place (wire_key w) < places = second_total mark node_key wire_key (length nodes) (length m.wires) w h in
      omega arith

  port_within : (bound : ℕ) (o : Option Net) → ((net : Net) → o ≡ Some net → suc places ≤ bound) → out_rank places o ≤ bound
  unfolding out_rank
  port_within bound None h = omega arith
  port_within bound (Some net) h = h net refl

  pub rank_within : (bound : ℕ) → places ≤ bound → ((p : ℕ) (net : Net) → p < 30 → out_at m.outs p ≡ Some net → suc places ≤ bound) → (x : List ℕ) → rank x ≤ bound
  unfolding rank
  rank_within bound h outs x =
      spread_within bound node_entry from_wires x (length nodes) 0 (λ k a b. node_within bound k (omega arith) h (mark k) refl)
      (spread_within bound wire_entry from_ports x (length m.wires) 0 (λ w a b. wire_within bound w (omega arith) h)
      (spread_within bound port_entry [] x 30 0 (λ p a b. port_within bound (out_at m.outs p) (λ net e. outs p net (omega arith) e)) (omega arith)))
