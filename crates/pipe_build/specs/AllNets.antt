-- All nets of the pipeline with their functions.
use Rattle.std.specs.Prelude.{◌≡◌, ℕ, false, true, Option, None, Some}
use Rattle.service_ports.specs.declared.ports.SystemPorts.{SystemPorts}
use Rattle.hw_pool.specs.Nodes.{PoolValue}
use Rattle.hw_pool.specs.Scope.{Scope}
use Rattle.pipe_steps.specs.Equations.{we_of}
use Rattle.pipe_steps.specs.Things.{PipeThings}
use Rattle.pipe_steps.specs.Values.{system_out, leaving, made_late_in, place_stage, places_behind}
use Rattle.pipe_build.specs.declared.nets.Offers.{Offers}
use Rattle.pipe_build.specs.declared.nets.TailNets.{TailNets}
use Rattle.pipe_build.specs.declared.nets.EndNets.{EndNets}
use Rattle.pipe_build.specs.declared.nets.PipeNets.{PipeNets}
use Rattle.pipe_build.specs.Bears.{Bears}
use Rattle.pipe_build.specs.Known.{AreMids, IsDecoder, IsFetch, IsHazard, IsKnown}
use Rattle.pipe_build.specs.DrivenBy.{DriveEvent, DriveFront, DriveSlot, DriveState, DriveTold, DriveWires}
use Rattle.pipe_build.specs.Late.{BearsLate, BearsStage}

module _ (s : Scope) (pool : PoolValue) (p : PipeThings) where
  -- the outputs of System, where there is one
  abbrev pub SystemIs : Option SystemPorts → Type 0
  SystemIs None = (p.shape.system ≡ false) × (p.services.system ≡ None)
  SystemIs (Some y) = (p.shape.system ≡ true) × Bears s pool 1 0 (λ env. system_out p env 0) y.take_irq × Bears s pool 32 0 (λ env. system_out p env 1) y.irq_cause
      × Bears s pool 32 0 (λ env. system_out p env 2) y.base

  -- the outputs of the services that a core has once
  pub record AreOffers (o : Offers) : Type 0 where
    pub fetch : IsFetch s pool p o.fetch
    pub decoder : IsDecoder s pool p o.decoder
    pub hazard : IsHazard s pool p o.hazard
    pub system : SystemIs o.system

  pub record DriveTail (n : TailNets) : Type 0 where
    pub made : BearsLate s pool 7 (λ env. made_late_in p env) n.made
    pub leaving_is : BearsLate s pool 7 (λ env. leaving env (made_late_in p env) p.own.tail) n.leaving
    pub enable : Bears s pool 1 7 (λ env. we_of (env.inputs 1) (leaving env (made_late_in p env) p.own.tail).writes) n.enable
    pub second : BearsStage s pool (λ env. place_stage env p.own.tail) n.second
    pub third : BearsStage s pool (λ env. place_stage env (places_behind p.own.tail)) n.third

  pub record DriveEnds (take : ℕ) (n : EndNets) : Type 0 where
    pub take_is : Bears s pool 1 8 (λ env. env.wires take) n.take
    pub bit : Bears s pool 1 0 (λ env. 0) n.bit
    pub mask : Bears s pool 4 0 (λ env. 0) n.mask
    pub word : Bears s pool 32 0 (λ env. 0) n.word

  pub record AreNets (take : ℕ) (n : PipeNets) : Type 0 where
    pub known : IsKnown s pool p n.known
    pub mids : AreMids s pool p n.mids
    pub wires : DriveWires s pool p n.wires
    pub state : DriveState s pool p n.state
    pub slot : DriveSlot s pool p n.slot
    pub told : DriveTold s pool p n.told
    pub event : DriveEvent s pool p n.event
    pub front : DriveFront s pool p n.front
    pub tail : DriveTail n.tail
    pub ends : DriveEnds take n.ends
