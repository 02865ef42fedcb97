-- When a plug-in may build alone, or beside one that it needs, and what it has built then.
use Rattle.std.specs.Prelude.{◌≡◌, ℕ, ◌+◌, ◌≤◌, [], true, false, None}
use Rattle.hw_module.specs.Rows.{out_at}
use Rattle.service_reg.specs.declared.service.Service.{Service}
use Rattle.service_reg.specs.declared.service.Service.TheVariants as service
use Rattle.service_ports.specs.Registry.{OffersBy, single}
use Rattle.plug_build.specs.World.{World, world_of}
use Rattle.plug_build.specs.Fits.{WorldFits}
use Rattle.plug_build.specs.Done.{OwnsNothing}
use Rattle.plug_api.specs.declared.spec.PlugSpec.{PlugSpec}
use Rattle.plug_api.specs.declared.spec.Plan.{Plan}
use Rattle.plug_api.specs.Spec.{is_among}
use Rattle.plug_api.specs.Calls.{AreOutsOpen, AreThere, AreUnoffered, IsLawful, OffersItsOwn, half_cost}
use Rattle.part_alone.specs.declared.build.Part.{Part}

-- all that a part is built in
abbrev pub world_in : Part → World
world_in p = world_of p.pool p.builder p.reg

-- nothing is built yet
pub record IsBare (w : World) : Type 0 where
  pub fits : WorldFits w
  pub nothing : (entry : ℕ) → OwnsNothing entry w
  pub unoffered : (s : Service) → single w.reg s ≡ None
  pub outs : (p : ℕ) → out_at w.design.outs p ≡ None

-- The plug-in may build as the entry: the entry has nothing yet, and what the plug-in needs is there. There is no Predict.
pub record MayBuild (spec : PlugSpec) (plan : Plan) (entry : ℕ) (w : World) : Type 0 where
  pub lawful : IsLawful spec plan entry
  pub few : half_cost spec plan ≤ 2080
  pub fits : WorldFits w
  pub nothing : OwnsNothing entry w
  pub unoffered : AreUnoffered spec w.reg
  pub outs : AreOutsOpen spec w.design
  pub needs : AreThere spec w.reg
  pub predict : single w.reg service.Predict ≡ None
  -- what offers Fetch offers no Predict
  pub none : is_among spec.offers service.Fetch ≡ true → is_among spec.offers service.Predict ≡ false
  pub offer : 1 ≤ w.reg.room

-- it has built as the entry
pub record HasBuilt (spec : PlugSpec) (entry : ℕ) (old new : World) : Type 0 where
  pub fits : WorldFits new
  pub offers : OffersBy entry old.reg new.reg
  pub offered : OffersItsOwn spec entry new.reg
  pub nothing : (other : ℕ) → (other ≡ entry → ⊥) → OwnsNothing other old → OwnsNothing other new
  pub offer : old.reg.room ≤ new.reg.room + 1

-- it needs no other, and its cost does not depend on claims
pub record IsAlone (spec : PlugSpec) : Type 0 where
  pub rows : spec.cost.per_row ≡ 0
  pub few : spec.cost.fixed ≤ 4160
  pub needs : spec.needs ≡ []
  -- what offers Fetch offers no Predict
  pub none : is_among spec.offers service.Fetch ≡ true → is_among spec.offers service.Predict ≡ false

-- Beside another it finds what it needs. It offers nothing that the other does, and has no bus; its cost does not depend on claims, and
-- the other offers no Predict.
pub record IsBeside (other spec : PlugSpec) : Type 0 where
  pub rows : spec.cost.per_row ≡ 0
  pub few : spec.cost.fixed ≤ 4160
  pub needs : (s : Service) → is_among spec.needs s ≡ true → is_among other.offers s ≡ true
  pub apart : (s : Service) → is_among spec.offers s ≡ true → is_among other.offers s ≡ false
  pub ibus : is_among spec.offers service.Fetch ≡ false
  pub dbus : is_among spec.offers service.DataBus ≡ false
  pub predict : is_among other.offers service.Predict ≡ false
