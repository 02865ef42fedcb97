-- Before the first box builds.
use Rattle.std.proofs.Common.{◌≡◌, ℕ, zero, suc, ◌+◌, ◌≤◌, List, [], length, get_or, refl, arith, ap, sym, subst, Option, None}
use Rattle.std.specs.Prelude.{false, replicate, sum_by}
use Rattle.std.proofs.lemmas.List.Sums.{sum_by-cons}
use Rattle.hw_module.specs.Frame.{count_of}
use Rattle.std.proofs.lemmas.Bool.{both_ways}
use Rattle.hw_pool.specs.Nodes.{PoolValue}
use Rattle.hw_pool.proofs.Frames.{adds_nothing}
use Rattle.hw_expr.specs.declared.net.Net.{Net}
use Rattle.hw_module.specs.declared.rows.Owner.TheVariants.{Pipe, Entry}
use Rattle.hw_module.specs.Rows.{ModuleValue}
use Rattle.hw_module.specs.Checked.{DriversFit}
use Rattle.service_reg.specs.declared.service.Service.{Service}
use Rattle.service_reg.specs.declared.service.Service.TheVariants.{Fetch, Predict, Decoder, RegFile, Hazard, Exec, DataBus, System}
use Rattle.service_ports.specs.Registry.{RegistryValue, Offered, single, offer_of}
use Rattle.plug_api.specs.declared.spec.PlugSpec.{PlugSpec}
use Rattle.plug_api.specs.declared.spec.Plan.{Plan}
use Rattle.plug_build.specs.Fits.{OfferKey, ports_at}
use Rattle.plug_build.specs.Fits.OfferKey.{The, ExecAt}
use Rattle.plug_part.specs.Owned.{is_input_of, ports_of}
use Rattle.plug_part.specs.Part.{Part}
use Rattle.service_ports.proofs.Offers.{none_some}
use Rattle.plug_join.specs.Joined.{rest_half, EarlySoFar, pipe_share}

empty-registry : ℕ → RegistryValue
empty-registry room = record { fetch = None; predict = None; decoder = None; regfile = None; hazard = None; databus = None; system = None; execs = []; room = room }

no-single : (room : ℕ) (s : Service) → single (empty-registry room) s ≡ None
unfolding empty-registry
no-single room Fetch = refl
no-single room Predict = refl
no-single room Decoder = refl
no-single room RegFile = refl
no-single room Hazard = refl
no-single room Exec = refl
no-single room DataBus = refl
no-single room System = refl

no-input : (room : ℕ) (x : OfferKey) (k : ℕ) → is_input_of (ports_at (empty-registry room) x) k ≡ false
unfolding empty-registry
no-input room (The s) k = ap (λ (o : Option Offered). is_input_of (ports_of o) k) (no-single room s)
no-input room (ExecAt i) k = refl

no-offer : (room e : ℕ) (s : Service) → offer_of (empty-registry room) e s ≡ None
unfolding empty-registry
no-offer room e Fetch = refl
no-offer room e Predict = refl
no-offer room e Decoder = refl
no-offer room e RegFile = refl
no-offer room e Hazard = refl
no-offer room e Exec = refl
no-offer room e DataBus = refl
no-offer room e System = refl

none-at : (n k : ℕ) → ◌≡◌ {A = Option Net} (get_or (replicate n None) k None) None
none-at zero k = refl
none-at (suc n) zero = refl
none-at (suc n) (suc k) = none-at n k

none-filled : (n : ℕ) → sum_by (count_of {A = Net}) (replicate n None) ≡ 0
none-filled zero = refl
none-filled (suc n) = let more = sum_by-cons (count_of {A = Net}) None (replicate n None) in let rest = none-filled n in omega (arith, more, rest)

bare-module : ℕ → ModuleValue
bare-module room = record { wires = []; regs = []; arrays = []; outs = replicate 30 None; room = room }

pipe-other : (e : ℕ) → Pipe ≡ Entry e → ⊥
pipe-other e h = cc

module _ {B : Type 0} (spec : B → PlugSpec) (boxes : List B) (plan : Plan) (test : B → Plan → Part → Type 0) (pool : PoolValue) where
  base : (room : ℕ) → DriversFit (bare-module plan.wanted) pool → plan.wanted ≤ pool.spare → ((x : B) → pipe_share plan + rest_half spec boxes plan x 0 + rest_half spec boxes plan x 0 ≤ plan.wanted) → length plan.order ≤ room
      → EarlySoFar spec test boxes plan pool (pipe_share plan) 0 (record { pool = pool; design = bare-module plan.wanted; reg = empty-registry room })
  unfolding bare-module empty-registry
  base room drivers spare wanted execs = record {
    fits = record {
      drivers = drivers;
      offers = record {
        singles = λ s o e. absurd (none_some _ o (no-single room s) e);
        execs = λ k o l e. absurd (omega arith);
        once = λ i j o q li ei lj ej same. absurd (omega arith);
        apart = λ x y k is other. absurd (both_ways (is_input_of (ports_at (empty-registry room) x) k) (no-input room x k) is);
      };
    };
    begun = λ d k l. absurd (omega arith);
    offered = λ d k l. absurd (omega arith);
    bare = λ k l. absurd (omega arith);
    fresh = λ k le l. record {
      wires = λ j own. pipe-other _ own;
      regs = λ j own. pipe-other _ own;
      arrays = λ j own. pipe-other _ own;
      offers = λ s. no-offer room (get_or plan.order k 0) s;
    };
    offers = record {
      singles = λ s o e. absurd (none_some _ o (no-single room s) e);
      execs = λ i d l. absurd (omega arith);
    };
    outs = λ p net e. absurd (none_some _ net (none-at 30 p) e);
    room = λ x. let had = wanted x in record { room = omega arith; spare = omega arith };
    execs = omega arith;
    owners = record {
      wires = λ k l. absurd (omega arith);
      regs = λ k l. absurd (omega arith);
      arrays = λ k l. absurd (omega arith);
    };
    spent = λ x. omega (arith, none-filled 30);
    nodes = 0;
    adds = adds_nothing pool pool refl (omega arith);
  }

  pub early_first : (d : ModuleValue) (reg : RegistryValue) (room : ℕ) → d ≡ record { wires = []; regs = []; arrays = []; outs = replicate 30 None; room = plan.wanted }
      → reg ≡ record { fetch = None; predict = None; decoder = None; regfile = None; hazard = None; databus = None; system = None; execs = []; room = room } → DriversFit d pool → plan.wanted ≤ pool.spare
      → ((x : B) → pipe_share plan + rest_half spec boxes plan x 0 + rest_half spec boxes plan x 0 ≤ plan.wanted) → length plan.order ≤ room → EarlySoFar spec test boxes plan pool (pipe_share plan) 0 (record { pool = pool; design = d; reg = reg })
  unfolding bare-module empty-registry
  early_first d reg room d-is reg-is drivers spare wanted execs =
      subst (λ (r : RegistryValue). EarlySoFar spec test boxes plan pool (pipe_share plan) 0 (record { pool = pool; design = d; reg = r })) (sym reg-is)
      (subst (λ (m : ModuleValue). EarlySoFar spec test boxes plan pool (pipe_share plan) 0 (record { pool = pool; design = m; reg = empty-registry room })) (sym d-is)
      (base room (subst (λ (m : ModuleValue). DriversFit m pool) d-is drivers) spare wanted execs))
