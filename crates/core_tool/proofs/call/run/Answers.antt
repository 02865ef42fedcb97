use Rattle.std.proofs.Common.{refl, ◌∙◌, subst, arith}
use Rattle.core_host.specs.declared.host.Port.TheVariants.{Main}
use Rattle.core_tool.specs.Call.{outside_of}
use Rattle.core_tool.specs.Parts.{IsLoaded, PulledOne}
use Rattle.core_tool.proofs.CallEnds.{config_ends, gives, image_end_earlier, image_ends, judged, run_ends, set_up, tree_passes}
use Rattle.core_tool.proofs.Pulls.{pulled_both, pulled_config, pulled_later}
use Rattle.core_tool.proofs.Runs.{core_ports}
use Rattle.core_tool.proofs.call.run.Goals as goal

pub returns-in-Err-clause-ends : goal.returns-in-Err-clause-ends
returns-in-Err-clause-ends g c = config_ends _ c.args.config_file.now c.in-Err.end refl (c.configure.ensures.ports Main) refl c.in-Err.ensures.ends

pub returns-in-Err-clause-pulled : goal.returns-in-Err-clause-pulled
returns-in-Err-clause-pulled g c =
    pulled_config _ c.args.config_file.now (g.H.Host.left c.configure.new.host) (g.H.Host.read_faults c.configure.new.host) refl (λ m. refl) (omega arith) c.configure.ensures.pulled

pub returns-in-Err-own_tree-clause-ends : goal.returns-in-Err-own_tree-clause-ends
returns-in-Err-own_tree-clause-ends g c =
    judged _ c.in-Ok.config c.in-Err-own_tree.end tt (gives _ c.args.config_file.now c.in-Ok.config refl c.in-Ok.ensures.allowed c.in-Ok.ensures.given)
    (c.configure.ensures.ports Main) c.in-Err-own_tree.ensures.ends

pub returns-in-Err-own_tree-clause-pulled : goal.returns-in-Err-own_tree-clause-pulled
returns-in-Err-own_tree-clause-pulled g c =
    pulled_config _ c.args.config_file.now (g.H.Host.left c.configure.new.host) (g.H.Host.read_faults c.configure.new.host) refl (λ m. refl) (omega arith) c.configure.ensures.pulled

pub returns-in-Err-load-clause-ends : goal.returns-in-Err-load-clause-ends
returns-in-Err-load-clause-ends g c =
    let files = g.H.Host.files c.args.host.now in
    image_ends _ c.args.image.now c.in-Ok.config c.in-Err-load.end refl tt
    (tree_passes _ c.in-Ok.config c.in-Ok-own_tree.checked.tree tt (gives _ c.args.config_file.now c.in-Ok.config refl c.in-Ok.ensures.allowed c.in-Ok.ensures.given) c.in-Ok-own_tree.ensures.core)
    (c.load.ensures.ports Main ∙ c.configure.ensures.ports Main)
    (image_end_earlier c.args.image.now c.in-Ok.config.mem files (g.H.Host.files c.configure.new.host) (g.H.Host.read_faults c.args.host.now) (g.H.Host.read_faults c.configure.new.host)
    (g.H.Host.read_faults c.load.new.host) c.in-Err-load.end c.configure.ensures.files c.configure.ensures.reads c.in-Err-load.ensures.refused)

pub returns-in-Err-load-clause-pulled : goal.returns-in-Err-load-clause-pulled
returns-in-Err-load-clause-pulled g c =
    pulled_both _ c.args.config_file.now c.args.image.now c.in-Ok.config (g.H.Host.left c.configure.new.host) (g.H.Host.read_faults c.configure.new.host) refl refl
    (gives _ c.args.config_file.now c.in-Ok.config refl c.in-Ok.ensures.allowed c.in-Ok.ensures.given) (λ tries. (c.in-Ok-own_tree.ensures.core.core.plan, c.in-Ok-own_tree.ensures.core.core.accepted))
    c.configure.ensures.reads c.load.ensures.reads c.configure.ensures.pulled
    (subst (λ f. PulledOne 67108865 c.args.image.now f (g.H.Host.left c.configure.new.host) (g.H.Host.left c.load.new.host) (g.H.Host.read_faults c.configure.new.host) (g.H.Host.read_faults c.load.new.host))
    c.configure.ensures.files c.load.ensures.pulled)

pub simulate-requires-clause-ports : goal.simulate-requires-clause-ports
simulate-requires-clause-ports g c = core_ports _ c.in-Ok.config c.in-Ok-own_tree.checked.tree c.in-Ok-own_tree.ensures.core

pub returns-clause-ends : goal.returns-clause-ends
returns-clause-ends g c =
    run_ends c.args.config_file.now c.args.image.now c.args.options (g.H.Host.files c.args.host.now) _ (outside_of g.H.Host c.args.host.now) (outside_of g.H.Host c.simulate.new.host)
    c.in-Ok.config c.in-Ok-own_tree.checked.tree c.in-Ok-load.memory (g.H.Host.pushed c.load.new.host Main) (g.H.Host.write_faults c.load.new.host) c.simulate.result
    (set_up _ c.args.image.now c.in-Ok.config c.in-Ok-own_tree.checked.tree c.in-Ok-load.memory tt (gives _ c.args.config_file.now c.in-Ok.config refl c.in-Ok.ensures.allowed c.in-Ok.ensures.given) c.in-Ok-own_tree.ensures.core
    (subst (λ f. IsLoaded c.args.image.now f c.in-Ok.config.mem c.in-Ok-load.memory) c.configure.ensures.files c.in-Ok-load.ensures.loaded)
    c.in-Ok-load.ensures.memory)
    (c.load.ensures.ports Main ∙ c.configure.ensures.ports Main) (omega (arith, c.configure.ensures.writes, c.load.ensures.writes)) c.simulate.ensures.ends

pub returns-clause-pulled : goal.returns-clause-pulled
returns-clause-pulled g c =
    pulled_later _ (outside_of g.H.Host c.args.host.now) (outside_of g.H.Host c.load.new.host) (outside_of g.H.Host c.simulate.new.host) c.simulate.ensures.left c.simulate.ensures.reads
    (pulled_both _ c.args.config_file.now c.args.image.now c.in-Ok.config (g.H.Host.left c.configure.new.host) (g.H.Host.read_faults c.configure.new.host) refl refl
    (gives _ c.args.config_file.now c.in-Ok.config refl c.in-Ok.ensures.allowed c.in-Ok.ensures.given) (λ tries. (c.in-Ok-own_tree.ensures.core.core.plan, c.in-Ok-own_tree.ensures.core.core.accepted))
    c.configure.ensures.reads c.load.ensures.reads c.configure.ensures.pulled
    (subst (λ f. PulledOne 67108865 c.args.image.now f (g.H.Host.left c.configure.new.host) (g.H.Host.left c.load.new.host) (g.H.Host.read_faults c.configure.new.host) (g.H.Host.read_faults c.load.new.host))
    c.configure.ensures.files c.load.ensures.pulled))
