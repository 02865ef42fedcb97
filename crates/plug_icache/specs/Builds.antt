-- The parts of this kind: their registers and arrays by number, and what is said of their trees, whatever stands at inputs, forward wires,
-- registers and arrays.
use Rattle.std.specs.Prelude.{◌≡◌, ℕ, ◌+◌, ◌-◌, ◌%◌, ◌^◌, ◌≤◌, ◌⊎◌, get_or, length, is_some, Option, None, Some}
use Rattle.hw_pool.specs.Trees.{Tree}
use Rattle.hw_pool.specs.Meaning.{Env, value}
use Rattle.bus_law.specs.Memory.{Memory}
use Rattle.isa_model.specs.Effects.{behind}
use Rattle.service_reg.specs.declared.service.Service.TheVariants.{Fetch, Predict}
use Rattle.plug_law.specs.Predict.{IsPredict}
use Rattle.plug_law.specs.Cache.{CacheLaw}
use Rattle.plug_part.specs.Part.{PortTrees, Part, sees, tree_at}
use Rattle.plug_part.specs.Runs.{IsPartRun}
use Rattle.plug_part.specs.Things.{HasArray, HasReg, HasWire, IsDriven, input_in}
use Rattle.plug_part.specs.Terms.{PartTerms}
use Rattle.plug_part.specs.Signals.{fetch_signals, part_ib}
use Rattle.plug_part.specs.Alone.{OffersOnly}
use Rattle.plug_part.specs.Meets.{MeetsLaws}
use Rattle.cache_law.specs.Law.{latency_of}
use Rattle.cache_nets.specs.Machine.{Now, FourNow, WriteNow, address_in, caught_after, cell_at, fill_at, front_after, index_at, item_after, reading_after, search_at, tag_write, word_write}

-- the pc behind the item that is looked up: Predict's answer where it is there
abbrev pub guess_in : Option PortTrees → (pc : ℕ) → Env → ℕ
guess_in None pc env = behind pc
guess_in (Some q) pc env = value env (tree_at q.outputs 0)

-- one cycle of the part with registers from a number on, the arrays of tags and of words by theirs, and its ports; the bus's signals are
-- inputs 3 and 5 to 7 of the core
abbrev pub now_in : (l k first tags : ℕ) → PortTrees → Option PortTrees → Env → Now
now_in l k first tags o q env = record {
  pc = env.regs first;
  walk = env.regs (first + 1);
  given = env.regs (first + 2);
  owed = env.regs (first + 3);
  dropped = env.regs (first + 4);
  line = env.regs (first + 4 + 1);
  place = env.regs (first + 4 + 2);
  bad = env.regs (first + 4 + 3);
  wanted = env.regs (first + 8);
  captured = env.regs (first + 8 + 1);
  captured_word = env.regs (first + 8 + 2);
  captured_error = env.regs (first + 8 + 3);
  full = env.regs (first + 12);
  out_pc = env.regs (first + 12 + 1);
  out_word = env.regs (first + 12 + 2);
  out_error = env.regs (first + 12 + 3);
  tag = get_or (env.cells tags) (index_at l k (env.regs first)) 0;
  cell = get_or (env.cells (tags + 1)) (cell_at l k (env.regs first)) 0;
  take = input_in o 0 env;
  redirect = input_in o 1 env;
  redirect_pc = input_in o 2 env;
  fence = input_in o 3 env;
  ready = env.inputs 3;
  answered = env.inputs 5;
  failed = env.inputs 6;
  payload = env.inputs 7;
  guess = guess_in q (env.regs first) env;
}

-- the next values of registers, and the writes of the arrays
module _ (l k : ℕ) (n : Now) where
  abbrev pub front_now : FourNow
  front_now = front_after l k n (search_at l k n) (fill_at k n)

  abbrev pub reading_now : FourNow
  reading_now = reading_after l k n (search_at l k n) (fill_at k n)

  abbrev pub caught_now : FourNow
  caught_now = caught_after l k n (search_at l k n) (fill_at k n)

  abbrev pub item_now : FourNow
  item_now = item_after l k n (search_at l k n) (fill_at k n)

  abbrev pub tag_now : WriteNow
  tag_now = tag_write l k n (search_at l k n) (fill_at k n)

  abbrev pub word_now : WriteNow
  word_now = word_write l k n (search_at l k n) (fill_at k n)

-- four registers of the part that follow each other, with their next values
pub record HasFour (p : Part) (reg a b c d : ℕ) (ra rb rc rd : Option ℕ) (f : Env → FourNow) : Type 0 where
  pub first : HasReg p reg a ra (λ env. (f env).first)
  pub second : HasReg p (reg + 1) b rb (λ env. (f env).second)
  pub third : HasReg p (reg + 2) c rc (λ env. (f env).third)
  pub fourth : HasReg p (reg + 3) d rd (λ env. (f env).fourth)

-- what the part asks Predict: the pc and the word that are looked up
pub record Asks (p : Part) (l k first tags : ℕ) (o q : PortTrees) : Type 0 where
  pub pc : IsDriven (p.drives (get_or q.inputs 0 0)) (λ env. env.regs first)
  pub word : IsDriven (p.drives (get_or q.inputs 1 0)) (λ env. (search_at l k (now_in l k first tags o (sees p Predict) env)).word)

pub record BuildsIcache (l k reset_pc : ℕ) (p : Part) : Type 0 where
  pub first : ℕ
  pub tags : ℕ
  pub ports : PortTrees
  pub only : OffersOnly p Fetch ports
  pub take : HasWire p (get_or ports.inputs 0 0) 1
  pub redirect : HasWire p (get_or ports.inputs 1 0) 1
  pub fence : HasWire p (get_or ports.inputs 3 0) 1
  -- each register has its equation
  pub front : HasFour p first 32 (l + 1) 1 1 (Some reset_pc) (Some 0) (Some 0) (Some 0) (λ env. front_now l k (now_in l k first tags ports (sees p Predict) env))
  pub reading : HasFour p (first + 4) 1 (30 - k) k 1 (Some 0) None None None (λ env. reading_now l k (now_in l k first tags ports (sees p Predict) env))
  pub caught : HasFour p (first + 8) 1 1 32 1 None (Some 0) None None (λ env. caught_now l k (now_in l k first tags ports (sees p Predict) env))
  pub item : HasFour p (first + 12) 1 32 32 1 (Some 0) None None None (λ env. item_now l k (now_in l k first tags ports (sees p Predict) env))
  -- and so has each array
  pub tag : HasArray p tags (31 - k - l) l (λ env. (tag_now l k (now_in l k first tags ports (sees p Predict) env)).enable)
      (λ env. (tag_now l k (now_in l k first tags ports (sees p Predict) env)).addr) (λ env. (tag_now l k (now_in l k first tags ports (sees p Predict) env)).item)
  pub cell : HasArray p (tags + 1) 32 (l + k) (λ env. (word_now l k (now_in l k first tags ports (sees p Predict) env)).enable)
      (λ env. (word_now l k (now_in l k first tags ports (sees p Predict) env)).addr) (λ env. (word_now l k (now_in l k first tags ports (sees p Predict) env)).item)
  -- the item is offered
  pub outputs : length ports.outputs ≡ 4
  pub valid : (env : Env) → value env (tree_at ports.outputs 0) ≡ env.regs (first + 12)
  pub offers_pc : (env : Env) → value env (tree_at ports.outputs 1) ≡ env.regs (first + 12 + 1)
  pub offers_word : (env : Env) → value env (tree_at ports.outputs 2) ≡ env.regs (first + 12 + 2)
  pub offers_error : (env : Env) → value env (tree_at ports.outputs 3) ≡ env.regs (first + 12 + 3)
  -- the command is given on the instruction bus, and no other output is driven
  pub cmd_valid : IsDriven (p.outs 2) (λ env. env.regs (first + 2))
  pub cmd_addr : IsDriven (p.outs 4) (λ env. address_in k (env.regs (first + 4 + 1)) (env.regs (first + 4 + 2)))
  pub no_other : (q : ℕ) (t : Tree) → p.outs q ≡ Some t → (q ≡ 2) ⊎ (q ≡ 4)
  pub asks : (q : PortTrees) → sees p Predict ≡ Some q → Asks p l k first tags ports q

-- they meet the laws at the latency of their sizes
abbrev pub IcachePartsMeetLaws : Type 0
IcachePartsMeetLaws =
    (l k : ℕ) (g : PartTerms) (p : Part) → 1 ≤ l → l ≤ 10 → 1 ≤ k → k ≤ 4 → g.reset_pc % 4 ≡ 0 → g.terms.latency ≡ latency_of (2 ^ l) (2 ^ k)
    → BuildsIcache l k g.reset_pc p → MeetsLaws g p

-- and keep the law of a cache of so many lines of so many words
abbrev pub IcachePartsKeepLines : Type 0
IcachePartsKeepLines =
    (l k reset_pc : ℕ) (p : Part) → 1 ≤ l → l ≤ 10 → 1 ≤ k → k ≤ 4 → reset_pc % 4 ≡ 0 → (b : BuildsIcache l k reset_pc p)
    → (predict : ℕ → ℕ → ℕ) → IsPredict (is_some (sees p Predict)) predict → (run : ℕ → Env) → IsPartRun p run → (mem : ℕ → Memory)
    → CacheLaw (2 ^ l) (2 ^ k) (is_some (sees p Predict)) predict (fetch_signals b.ports (sees p Predict) run) (part_ib p run) mem
