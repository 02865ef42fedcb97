-- The pipeline's own registers by their numbers, and the pipeline of a run.
use Rattle.std.specs.Prelude.{ℕ, eqb, Bool, List, map}
use Rattle.hw_pool.specs.Meaning.{Env}
use Rattle.plug_law.specs.Pipeline.{Pipe, Late}
use Rattle.plug_part.specs.Signals.{or_none, fetch_signals, decode_signals, reg_signals, hazard_signals, exec_signals, system_signals}
use Rattle.part_laws.specs.Joined.{Services, ports_in}

pub record LateOwn : Type 0 where
  pub writes : ℕ
  pub rd : ℕ
  pub value : ℕ

pub record PipeOwn : Type 0 where
  pub apc : ℕ
  pub flush : ℕ
  pub flush_fence : ℕ
  pub started : ℕ
  pub stopped : ℕ
  pub valid : ℕ
  -- the slot
  pub pc : ℕ
  pub word : ℕ
  pub error : ℕ
  pub legal : ℕ
  pub row : ℕ
  pub except : ℕ
  pub writes : ℕ
  pub a : ℕ
  pub b : ℕ
  -- by entry
  pub chosen : ℕ → ℕ
  -- the youngest first
  pub tail : List LateOwn

abbrev pub reg_bit : (ℕ → Env) → ℕ → ℕ → Bool
reg_bit run r k = eqb ((run k).regs r) 1

abbrev pub late_at : (ℕ → Env) → ℕ → LateOwn → Late
late_at run k x = record { writes = reg_bit run x.writes k; rd = (run k).regs x.rd; value = (run k).regs x.value }

abbrev pub pipe_of : PipeOwn → Services → (ℕ → Env) → Pipe
pipe_of own x run = record {
  apc = λ k. (run k).regs own.apc;
  flush = reg_bit run own.flush;
  flush_fence = reg_bit run own.flush_fence;
  started = reg_bit run own.started;
  stopped = reg_bit run own.stopped;
  valid = reg_bit run own.valid;
  slot = λ k. record {
    pc = (run k).regs own.pc;
    word = (run k).regs own.word;
    error = reg_bit run own.error k;
    legal = reg_bit run own.legal k;
    row = (run k).regs own.row;
    except = reg_bit run own.except k;
    writes = reg_bit run own.writes k;
    a = (run k).regs own.a;
    b = (run k).regs own.b;
  };
  chosen = λ entry. reg_bit run (own.chosen entry);
  tail = λ k. map (late_at run k) own.tail;
  fetch = fetch_signals x.fetch.1 (ports_in x.predict) run;
  decode = decode_signals x.decoder.1 run;
  regs = reg_signals x.regs.1 run;
  hazard = hazard_signals x.hazard.1 run;
  unit = λ entry. exec_signals (x.exec entry) run;
  system = system_signals (or_none (ports_in x.system)) run;
}
