-- What is driven once has the values that the pipeline's step asks for.
use Rattle.std.proofs.Common.{◌≡◌, ◌∙◌, ℕ, zero, suc, ◌+◌, ◌<◌, Bool, false, List, [], ◌∷◌, length, get_or, sym, ap, subst, arith, Option, Some}
use Rattle.hw_pool.specs.Meaning.{Env}
use Rattle.hw_pool.specs.Nodes.{PoolValue}
use Rattle.hw_pool.specs.Scope.{Scope}
use Rattle.hw_expr.specs.declared.net.Net.{Net}
use Rattle.hw_module.specs.Rows.{ModuleValue, reg_at, wire_at}
use Rattle.service_ports.specs.declared.ports.ExecOffer.{ExecOffer}
use Rattle.service_ports.specs.declared.ports.SystemPorts.{SystemPorts}
use Rattle.plug_law.specs.Pipeline.{Shape}
use Rattle.plug_part.specs.Of.{tree_option}
use Rattle.plug_part.specs.Part.{PortTrees}
use Rattle.plug_part.specs.Things.{IsDriven}
use Rattle.part_laws.specs.Joined.{Services, ports_in}
use Rattle.pipe_drive.specs.Drives.{HasDrivers, HasNexts, HasOuts}
use Rattle.pipe_drive.specs.Rows.{own_shapes, plain}
use Rattle.pipe_steps.specs.Drives.{DrivesSystem, InHas, OutHas, RegHas, WireHas}
use Rattle.pipe_steps.specs.Numbers.{things_from}
use Rattle.pipe_steps.specs.Things.{PipeThings}
use Rattle.pipe_build.specs.declared.nets.Offers.{Offers}
use Rattle.pipe_build.specs.declared.nets.PipeNets.{PipeNets}
use Rattle.pipe_build.specs.AllNets.{AreNets}
use Rattle.pipe_build.specs.Bears.{Bears}
use Rattle.pipe_build.proofs.Has.{driven_by}
use Rattle.pipe_build.specs.Rest.{bus_drives, reg_list, system_drives, system_list}
use Rattle.pipe_build.specs.RestAt.{AllThere, HaveInputs, RestAt, RestDriven}

module _ (pool : PoolValue) (d : ModuleValue) where
  is_driven : {s : Scope} {width level : ℕ} {f : Env → ℕ} {net : Net} {o : Option Net} → Bears s pool width level f net → o ≡ Some net → IsDriven (tree_option pool.nodes o) f
  is_driven b e = driven_by _ e b

  wire_has : {s : Scope} {width level k : ℕ} {f : Env → ℕ} {net : Net} → Bears s pool width level f net → k < length d.wires → (wire_at d.wires k).driver ≡ Some net → WireHas d pool.nodes k f
  wire_has b l e = record { there = l; driven = is_driven b e }

  in_has : (o : PortTrees) {ws : List ℕ} (i : ℕ) {f : Env → ℕ} → o.inputs ≡ ws → WireHas d pool.nodes (get_or ws i 0) f → InHas d pool.nodes o i f
  in_has o i {f} e h = subst (λ ws. WireHas d pool.nodes (get_or ws i 0) f) (sym e) h

  pub nexts_at : (k : ℕ) (xs : List Net) → HasNexts d k xs → (j : ℕ) (x : Net) → j < length xs → (reg_at d.regs (k + j)).next ≡ Some (get_or xs j x)
  nexts_at k [] h j x l = absurd (omega arith)
  nexts_at k (y ∷ ys) h zero x l = let e : k + 0 ≡ k = omega arith in ap (λ i. (reg_at d.regs i).next) e ∙ h.0
  nexts_at k (y ∷ ys) h (suc j) x l = let e : k + suc j ≡ k + 1 + j = omega arith in ap (λ i. (reg_at d.regs i).next) e ∙ nexts_at (k + 1) ys h.1 j x (omega arith)

  module _ (wire reg : ℕ) (execs : List ExecOffer) (x : Services) (sh : Shape) (o : Offers) (has_bus : Bool) (n : PipeNets) (s : Scope)
      (nets : AreNets s pool (things_from pool.nodes wire reg execs x sh) o.fetch.take n) (at : RestAt d wire reg sh.reset_pc o has_bus n) (inputs : HaveInputs x o) (bus : sh.holds ≡ has_bus) where
    abbrev p : PipeThings
    p = things_from pool.nodes wire reg execs x sh

    -- stands where a list has no net
    abbrev no_net : Net
    no_net = record { id = record { 0 = 0 }; width = 0; level = 0 }

    own_reg : (j : ℕ) {width level : ℕ} {f : Env → ℕ} → j < 15 → Bears s pool width level f (get_or (reg_list n) j no_net)
        → RegHas d pool.nodes (reg + j) (get_or (own_shapes sh.reset_pc) j (plain 1)).0 (get_or (own_shapes sh.reset_pc) j (plain 1)).1 f
    own_reg j l b = let row = at.rows j l in record { there = row.there; wide = row.wide; reset_is = row.reset; driven = is_driven b (nexts_at reg (reg_list n) at.has.regs j no_net l) }

    first_reg : {width : ℕ} {reset : Option ℕ} {f : Env → ℕ} → RegHas d pool.nodes (reg + 0) width reset f → RegHas d pool.nodes reg width reset f
    first_reg {width} {reset} {f} h = let e : reg + 0 ≡ reg = omega arith in subst (λ r. RegHas d pool.nodes r width reset f) e h

    system_at : (q : Option SystemPorts) → HasDrivers d (system_list q n) → AllThere d (system_list q n) → (r : SystemPorts) → q ≡ Some r → HasDrivers d (system_drives r n) × AllThere d (system_drives r n)
    system_at q h l r e = (subst (λ q. HasDrivers d (system_list q n)) e h, subst (λ q. AllThere d (system_list q n)) e l)

    drives_system : (y : PortTrees) → ports_in x.system ≡ Some y → DrivesSystem d pool.nodes p y
    drives_system y is =
        let q = inputs.system y is in
        let h = system_at o.system at.has.system at.system_there q.0 q.1 in
        record {
          event = in_has y 0 q.2 (wire_has nets.mids.event h.1.0 h.0.0);
          kind = in_has y 1 q.2 (wire_has nets.event.kind h.1.1.0 h.0.1.0);
          pc = in_has y 2 q.2 (wire_has nets.known.regs.apc h.1.1.1.0 h.0.1.1.0);
          cause = in_has y 3 q.2 (wire_has nets.event.cause h.1.1.1.1.0 h.0.1.1.1.0);
          tval = in_has y 4 q.2 (wire_has nets.event.tval h.1.1.1.1.1.0 h.0.1.1.1.1.0);
        }

    bus_at : (b : Bool) → HasOuts d (bus_drives b n) → b ≡ false → HasOuts d (bus_drives false n)
    bus_at b h e = subst (λ b. HasOuts d (bus_drives b n)) e h

    pub rest_drives : RestDriven d pool.nodes p
    rest_drives =
        let h = at.has.wires in
        let l = at.there in
        let t = at.has.told in
        record {
          wires = record {
            kill = wire_has nets.wires.kill l.0 h.0;
            irq = wire_has nets.wires.irq l.1.0 h.1.0;
            run = wire_has nets.wires.run l.1.1.0 h.1.1.0;
            ends = wire_has nets.wires.ends l.1.1.1.0 h.1.1.1.0;
            retires = wire_has nets.wires.retires l.1.1.1.1.0 h.1.1.1.1.0;
            traps = wire_has nets.wires.traps l.1.1.1.1.1.0 h.1.1.1.1.1.0;
            writes = wire_has nets.wires.writes l.1.1.1.1.1.1.0 h.1.1.1.1.1.1.0;
            enters = wire_has nets.wires.enters l.1.1.1.1.1.1.1.0 h.1.1.1.1.1.1.1.0;
          };
          regs = record {
            apc = first_reg (own_reg 0 (omega arith) nets.state.apc);
            flush = own_reg 1 (omega arith) nets.state.flush;
            flush_fence = own_reg 2 (omega arith) nets.mids.fences;
            started = own_reg 3 (omega arith) nets.state.started;
            stopped = own_reg 4 (omega arith) nets.state.stopped;
            valid = own_reg 5 (omega arith) nets.state.valid;
          };
          slot = record {
            pc = own_reg 6 (omega arith) nets.slot.pc;
            word = own_reg 7 (omega arith) nets.slot.word;
            error = own_reg 8 (omega arith) nets.slot.error;
            legal = own_reg 9 (omega arith) nets.slot.legal;
            row = own_reg 10 (omega arith) nets.slot.row;
            except = own_reg 11 (omega arith) nets.slot.except;
            writes = own_reg 12 (omega arith) nets.slot.writes;
            a = own_reg 13 (omega arith) nets.slot.a;
            b = own_reg 14 (omega arith) nets.slot.b;
          };
          fetch = let h = h.1.1.1.1.1.1.1.1 in let l = l.1.1.1.1.1.1.1.1 in record {
            take = in_has x.fetch.1 0 inputs.fetch (wire_has nets.mids.takes l.0 h.0);
            redirect = in_has x.fetch.1 1 inputs.fetch (wire_has nets.known.wires.kill l.1.0 h.1.0);
            redirect_pc = in_has x.fetch.1 2 inputs.fetch (wire_has nets.known.regs.apc l.1.1.0 h.1.1.0);
            fence = in_has x.fetch.1 3 inputs.fetch (wire_has nets.front.fence l.1.1.1.0 h.1.1.1.0);
          };
          decode = let h = h.1.1.1.1.1.1.1.1.1.1.1.1 in let l = l.1.1.1.1.1.1.1.1.1.1.1.1 in record {
            word = in_has x.decoder.1 0 inputs.decoder (wire_has nets.known.fetch.word l.0 h.0);
            ra = in_has x.regs.1 0 inputs.regs (wire_has nets.front.ra l.1.0 h.1.0);
            rb = in_has x.regs.1 1 inputs.regs (wire_has nets.front.rb l.1.1.0 h.1.1.0);
            we = in_has x.regs.1 2 inputs.regs (wire_has nets.tail.enable l.1.1.1.0 h.1.1.1.0);
            wa = in_has x.regs.1 3 inputs.regs (wire_has nets.tail.leaving_is.rd l.1.1.1.1.0 h.1.1.1.1.0);
            wd = in_has x.regs.1 4 inputs.regs (wire_has nets.tail.leaving_is.value l.1.1.1.1.1.0 h.1.1.1.1.1.0);
          };
          hazard = let h = h.1.1.1.1.1.1.1.1.1.1.1.1.1.1.1.1.1.1 in let l = l.1.1.1.1.1.1.1.1.1.1.1.1.1.1.1.1.1.1 in record {
            first = record {
              writes = in_has x.hazard.1 0 inputs.hazard (wire_has nets.front.writes l.0 h.0);
              rd = in_has x.hazard.1 1 inputs.hazard (wire_has nets.front.rd l.1.0 h.1.0);
              ready = in_has x.hazard.1 2 inputs.hazard (wire_has nets.known.units.done l.1.1.0 h.1.1.0);
              value = in_has x.hazard.1 3 inputs.hazard (wire_has nets.known.units.value l.1.1.1.0 h.1.1.1.0);
            };
            second = let h = h.1.1.1.1 in let l = l.1.1.1.1 in record {
              writes = in_has x.hazard.1 4 inputs.hazard (wire_has nets.tail.second.writes l.0 h.0);
              rd = in_has x.hazard.1 5 inputs.hazard (wire_has nets.tail.second.rd l.1.0 h.1.0);
              ready = in_has x.hazard.1 6 inputs.hazard (wire_has nets.tail.second.ready l.1.1.0 h.1.1.0);
              value = in_has x.hazard.1 7 inputs.hazard (wire_has nets.tail.second.value l.1.1.1.0 h.1.1.1.0);
            };
            third = let h = h.1.1.1.1.1.1.1.1 in let l = l.1.1.1.1.1.1.1.1 in record {
              writes = in_has x.hazard.1 8 inputs.hazard (wire_has nets.tail.third.writes l.0 h.0);
              rd = in_has x.hazard.1 9 inputs.hazard (wire_has nets.tail.third.rd l.1.0 h.1.0);
              ready = in_has x.hazard.1 10 inputs.hazard (wire_has nets.tail.third.ready l.1.1.0 h.1.1.0);
              value = in_has x.hazard.1 11 inputs.hazard (wire_has nets.tail.third.value l.1.1.1.0 h.1.1.1.0);
            };
            ra = let h = h.1.1.1.1.1.1.1.1.1.1.1.1 in let l = l.1.1.1.1.1.1.1.1.1.1.1.1 in in_has x.hazard.1 12 inputs.hazard (wire_has nets.front.ra l.0 h.0);
            rb = let h = h.1.1.1.1.1.1.1.1.1.1.1.1 in let l = l.1.1.1.1.1.1.1.1.1.1.1.1 in in_has x.hazard.1 13 inputs.hazard (wire_has nets.front.rb l.1.0 h.1.0);
            uses_a = let h = h.1.1.1.1.1.1.1.1.1.1.1.1 in let l = l.1.1.1.1.1.1.1.1.1.1.1.1 in in_has x.hazard.1 14 inputs.hazard (wire_has nets.known.decoder.uses_a l.1.1.0 h.1.1.0);
            uses_b = let h = h.1.1.1.1.1.1.1.1.1.1.1.1 in let l = l.1.1.1.1.1.1.1.1.1.1.1.1 in in_has x.hazard.1 15 inputs.hazard (wire_has nets.known.decoder.uses_b l.1.1.1.0 h.1.1.1.0);
          };
          system = drives_system;
          outs = record {
            ev_valid = is_driven nets.mids.event t.0;
            ev_kind = is_driven nets.told.kind t.1.0;
            ev_pc = is_driven nets.known.regs.apc t.1.1.0;
            ev_word = is_driven nets.told.word t.1.1.1.0;
            ev_rd = is_driven nets.told.rd t.1.1.1.1.0;
            ev_value = is_driven nets.told.value t.1.1.1.1.1.0;
            ev_cause = is_driven nets.told.cause t.1.1.1.1.1.1.0;
            fe_valid = is_driven nets.known.fetch.valid t.1.1.1.1.1.1.1.0;
            fe_take = subst (λ ws. OutHas d pool.nodes 28 (λ env. env.wires (get_or ws 0 0))) (sym inputs.fetch) (is_driven nets.ends.take_is t.1.1.1.1.1.1.1.1.0);
            fe_pc = is_driven nets.known.fetch.pc t.1.1.1.1.1.1.1.1.1.0;
          };
          no_bus = λ none. let b = bus_at has_bus at.has.bus (sym bus ∙ none) in record {
            cmd_valid = is_driven nets.ends.bit b.0;
            cmd_write = is_driven nets.ends.bit b.1.0;
            cmd_addr = is_driven nets.ends.word b.1.1.0;
            cmd_data = is_driven nets.ends.word b.1.1.1.0;
            cmd_mask = is_driven nets.ends.mask b.1.1.1.1.0;
          };
        }
