-- Before anything builds.
use Rattle.std.proofs.Common.{◌≡◌, ℕ, zero, suc, [], get_or, refl, arith, ap, sym, subst, Option, None}
use Rattle.std.specs.Prelude.{false, replicate}
use Rattle.std.proofs.lemmas.Bool.{both_ways}
use Rattle.hw_pool.specs.Nodes.{PoolValue}
use Rattle.hw_expr.specs.declared.net.Net.{Net}
use Rattle.hw_module.specs.declared.rows.Owner.TheVariants.{Pipe, Entry}
use Rattle.hw_module.specs.Rows.{ModuleValue}
use Rattle.hw_module.specs.Checked.{DriversFit}
use Rattle.service_reg.specs.declared.service.Service.{Service}
use Rattle.service_reg.specs.declared.service.Service.TheVariants.{Fetch, Predict, Decoder, RegFile, Hazard, Exec, DataBus, System}
use Rattle.service_ports.specs.Registry.{RegistryValue, Offered, single, offer_of}
use Rattle.service_ports.proofs.Offers.{none_some}
use Rattle.plug_part.specs.Owned.{is_input_of, ports_of}
use Rattle.plug_build.specs.Fits.{OfferKey, ports_at}
use Rattle.plug_build.specs.Fits.OfferKey.{The, ExecAt}
use Rattle.part_alone.specs.Built.{IsBare}

empty-registry : ℕ → RegistryValue
empty-registry room = record { fetch = None; predict = None; decoder = None; regfile = None; hazard = None; databus = None; system = None; execs = []; room = room }

no-single : (room : ℕ) (s : Service) → single (empty-registry room) s ≡ None
unfolding empty-registry
no-single room Fetch = refl
no-single room Predict = refl
no-single room Decoder = refl
no-single room RegFile = refl
no-single room Hazard = refl
no-single room Exec = refl
no-single room DataBus = refl
no-single room System = refl

no-input : (room : ℕ) (x : OfferKey) (k : ℕ) → is_input_of (ports_at (empty-registry room) x) k ≡ false
unfolding empty-registry
no-input room (The s) k = ap (λ (o : Option Offered). is_input_of (ports_of o) k) (no-single room s)
no-input room (ExecAt i) k = refl

no-offer : (room e : ℕ) (s : Service) → offer_of (empty-registry room) e s ≡ None
unfolding empty-registry
no-offer room e Fetch = refl
no-offer room e Predict = refl
no-offer room e Decoder = refl
no-offer room e RegFile = refl
no-offer room e Hazard = refl
no-offer room e Exec = refl
no-offer room e DataBus = refl
no-offer room e System = refl

none-at : (n k : ℕ) → ◌≡◌ {A = Option Net} (get_or (replicate n None) k None) None
none-at zero k = refl
none-at (suc n) zero = refl
none-at (suc n) (suc k) = none-at n k

bare-module : ℕ → ModuleValue
bare-module room = record { wires = []; regs = []; arrays = []; outs = replicate 30 None; room = room }

pipe-other : (e : ℕ) → Pipe ≡ Entry e → ⊥
pipe-other e h = cc

base : (pool : PoolValue) (things room : ℕ) → DriversFit (bare-module things) pool → IsBare (record { pool = pool; design = bare-module things; reg = empty-registry room })
unfolding bare-module empty-registry
base pool things room drivers = record {
  fits = record {
    drivers = drivers;
    offers = record {
      singles = λ s o e. absurd (none_some _ o (no-single room s) e);
      execs = λ k o l e. absurd (omega arith);
      once = λ i j o q li ei lj ej same. absurd (omega arith);
      apart = λ x y k is other. absurd (both_ways (is_input_of (ports_at (empty-registry room) x) k) (no-input room x k) is);
    };
  };
  nothing = λ e. record {
    wires = λ j own. pipe-other _ own;
    regs = λ j own. pipe-other _ own;
    arrays = λ j own. pipe-other _ own;
    offers = λ s. no-offer room e s;
  };
  unoffered = λ s. no-single room s;
  outs = λ p. none-at 30 p;
}

pub bare : (pool : PoolValue) (d : ModuleValue) (reg : RegistryValue) (things room : ℕ) → d ≡ record { wires = []; regs = []; arrays = []; outs = replicate 30 None; room = things }
    → reg ≡ record { fetch = None; predict = None; decoder = None; regfile = None; hazard = None; databus = None; system = None; execs = []; room = room } → DriversFit d pool
    → IsBare (record { pool = pool; design = d; reg = reg })
unfolding bare-module empty-registry
bare pool d reg things room d-is reg-is drivers =
    subst (λ (r : RegistryValue). IsBare (record { pool = pool; design = d; reg = r })) (sym reg-is)
    (subst (λ (m : ModuleValue). IsBare (record { pool = pool; design = m; reg = empty-registry room })) (sym d-is)
    (base pool things room (subst (λ (m : ModuleValue). DriversFit m pool) d-is drivers)))
