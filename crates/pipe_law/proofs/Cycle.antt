-- What the wires of a cycle say.
use Rattle.std.proofs.Common.{◌≡◌, ℕ, Bool, true, false, cond, not, eqb, List, [], ◌∷◌, ◌&&◌, ◌||◌, ◌⊎◌, inl, inr, refl, ap, ◌∙◌, sym, arith}
use Rattle.std.specs.Prelude.{bit_or}
use Rattle.std.specs.Int.Bits.{or_self, or_zero_l, or_zero_r}
use Rattle.plug_law.specs.Pipeline.{Pipe, Shape, any_done, asked, ends, enters, event, faulty, gather, gather_bit, irq, kill, member, retires, run, take_irq, takes, through, trap, traps, wins, writes, wrong}
use Rattle.pipe_law.proofs.Basics.{and_l, and_no_l, and_no_r, and_r, and_yes, both, cond_true, eqb_refl, eqb_swap, not_false, not_true, or_l, or_no, or_r, or_true, or_yes, same, unequal_is}

-- ---- the one unit that may be done

-- where none is, the wire says so
pub none_done : (done : ℕ → Bool) (ks : List ℕ) → ((k : ℕ) → member k ks ≡ true → done k ≡ false) → any_done done ks ≡ false
none_done done [] h = refl
none_done done (x ∷ xs) h = or_no (done x) (any_done done xs) (h x (here x xs)) (none_done done xs (λ k e. h k (there k x xs e)))
  where
    here : (x : ℕ) (xs : List ℕ) → member x (x ∷ xs) ≡ true
    here x xs = ap (λ b. b || member x xs) (eqb_refl x)

    there : (k x : ℕ) (xs : List ℕ) → member k xs ≡ true → member k (x ∷ xs) ≡ true
    there k x xs e = or_true (eqb x k) (member k xs) e

-- a unit that is done is seen
pub some_done : (done : ℕ → Bool) (ks : List ℕ) (u : ℕ) → member u ks ≡ true → done u ≡ true → any_done done ks ≡ true
some_done done [] u m d = m
some_done done (x ∷ xs) u m d = by_head (eqb x u) refl (some_done done xs u)
  where
    by_head : (b : Bool) → eqb x u ≡ b → (member u xs ≡ true → done u ≡ true → any_done done xs ≡ true) → any_done done (x ∷ xs) ≡ true
    by_head true e ih = ap (λ b. b || any_done done xs) (ap done (same x u e) ∙ d)
    by_head false e ih = or_true (done x) (any_done done xs) (ih (sym (ap (λ b. b || member u xs) e) ∙ m) d)

-- where one unit alone may be done, the wire is its done
pub any_is : (done : ℕ → Bool) (ks : List ℕ) (u : ℕ) → member u ks ≡ true → ((k : ℕ) → member k ks ≡ true → eqb u k ≡ false → done k ≡ false) → any_done done ks ≡ done u
any_is done ks u m others = by (done u) refl
  where
    by_key : (k : ℕ) → done u ≡ false → member k ks ≡ true → (b : Bool) → eqb u k ≡ b → done k ≡ false
    by_key k d e true q = ap done (sym (same u k q)) ∙ d
    by_key k d e false q = others k e q

    by : (b : Bool) → done u ≡ b → any_done done ks ≡ done u
    by true d = some_done done ks u m d ∙ sym d
    by false d = none_done done ks (λ k e. by_key k d e (eqb u k) refl) ∙ sym d

-- ---- the outputs of the entry that is chosen

-- where none is, the outputs joined are 0
pub gather_none : (chosen : ℕ → Bool) (ks : List ℕ) (f : ℕ → ℕ) → ((k : ℕ) → member k ks ≡ true → chosen k ≡ false) → gather chosen ks f ≡ 0
gather_none chosen [] f h = refl
gather_none chosen (x ∷ xs) f h =
    (λ i. bit_or (cond (h x (ap (λ b. b || member x xs) (eqb_refl x)) i) (f x) 0) (gather chosen xs f)) ∙ or_zero_l (gather chosen xs f)
    ∙ gather_none chosen xs f (λ k e. h k (or_true (eqb x k) (member k xs) e))

-- where one entry alone is chosen, the outputs joined are its own
pub gather_is : (chosen : ℕ → Bool) (ks : List ℕ) (u : ℕ) (f : ℕ → ℕ) → member u ks ≡ true → chosen u ≡ true → ((k : ℕ) → member k ks ≡ true → eqb u k ≡ false → chosen k ≡ false) → gather chosen ks f ≡ f u
gather_is chosen [] u f m c others = absurd (grind arith)
gather_is chosen (x ∷ xs) u f m c others = by_head (eqb u x) refl (gather_is chosen xs u f)
  where
    rest : (k : ℕ) → member k xs ≡ true → eqb u k ≡ false → chosen k ≡ false
    rest k e q = others k (or_true (eqb x k) (member k xs) e) q

    by_key : (k : ℕ) → member u xs ≡ false → member k xs ≡ true → (b : Bool) → eqb u k ≡ b → chosen k ≡ false
    by_key k n e true q = both (member k xs) e (ap (λ z. member z xs) (sym (same u k q)) ∙ n)
    by_key k n e false q = rest k e q

    by_rest : (b : Bool) → member u xs ≡ b → eqb u x ≡ true → (member u xs ≡ true → chosen u ≡ true → ((k : ℕ) → member k xs ≡ true → eqb u k ≡ false → chosen k ≡ false) → gather chosen xs f ≡ f u)
        → bit_or (f u) (gather chosen xs f) ≡ f u
    by_rest true n q ih = ap (bit_or (f u)) (ih n c rest) ∙ or_self (f u)
    by_rest false n q ih = ap (bit_or (f u)) (gather_none chosen xs f (λ k e. by_key k n e (eqb u k) refl)) ∙ or_zero_r (f u)

    in_rest : eqb u x ≡ false → member u xs ≡ true
    in_rest q = sym (ap (λ b. b || member u xs) (eqb_swap x u ∙ q)) ∙ m

    by_head : (b : Bool) → eqb u x ≡ b → (member u xs ≡ true → chosen u ≡ true → ((k : ℕ) → member k xs ≡ true → eqb u k ≡ false → chosen k ≡ false) → gather chosen xs f ≡ f u) → gather chosen (x ∷ xs) f ≡ f u
    by_head true q ih =
        (λ i. bit_or (cond (chosen (sym (same u x q) i)) (f (sym (same u x q) i)) 0) (gather chosen xs f))
        ∙ (λ i. bit_or (cond (c i) (f u) 0) (gather chosen xs f)) ∙ by_rest (member u xs) refl q ih
    by_head false q ih =
        (λ i. bit_or (cond (others x (ap (λ b. b || member x xs) (eqb_refl x)) q i) (f x) 0) (gather chosen xs f)) ∙ or_zero_l (gather chosen xs f)
        ∙ ih (in_rest q) c rest

-- where none is, one bit of them is 0
pub gather_bit_none : (chosen : ℕ → Bool) (ks : List ℕ) (f : ℕ → Bool) → ((k : ℕ) → member k ks ≡ true → chosen k ≡ false) → gather_bit chosen ks f ≡ false
gather_bit_none chosen [] f h = refl
gather_bit_none chosen (x ∷ xs) f h =
    (λ i. (h x (ap (λ b. b || member x xs) (eqb_refl x)) i && f x) || gather_bit chosen xs f)
    ∙ gather_bit_none chosen xs f (λ k e. h k (or_true (eqb x k) (member k xs) e))

-- the same of one bit
pub gather_bit_is : (chosen : ℕ → Bool) (ks : List ℕ) (u : ℕ) (f : ℕ → Bool) → member u ks ≡ true → chosen u ≡ true → ((k : ℕ) → member k ks ≡ true → eqb u k ≡ false → chosen k ≡ false) → gather_bit chosen ks f ≡ f u
gather_bit_is chosen [] u f m c others = absurd (grind arith)
gather_bit_is chosen (x ∷ xs) u f m c others = by_head (eqb u x) refl (gather_bit_is chosen xs u f)
  where
    or_same : (a : Bool) → (a || a) ≡ a
    or_same true = refl
    or_same false = refl

    or_none : (a : Bool) → (a || false) ≡ a
    or_none true = refl
    or_none false = refl

    rest : (k : ℕ) → member k xs ≡ true → eqb u k ≡ false → chosen k ≡ false
    rest k e q = others k (or_true (eqb x k) (member k xs) e) q

    by_key : (k : ℕ) → member u xs ≡ false → member k xs ≡ true → (b : Bool) → eqb u k ≡ b → chosen k ≡ false
    by_key k n e true q = both (member k xs) e (ap (λ z. member z xs) (sym (same u k q)) ∙ n)
    by_key k n e false q = rest k e q

    by_rest : (b : Bool) → member u xs ≡ b → eqb u x ≡ true → (member u xs ≡ true → chosen u ≡ true → ((k : ℕ) → member k xs ≡ true → eqb u k ≡ false → chosen k ≡ false) → gather_bit chosen xs f ≡ f u)
        → (f u || gather_bit chosen xs f) ≡ f u
    by_rest true n q ih = ap (λ b. f u || b) (ih n c rest) ∙ or_same (f u)
    by_rest false n q ih = ap (λ b. f u || b) (gather_bit_none chosen xs f (λ k e. by_key k n e (eqb u k) refl)) ∙ or_none (f u)

    in_rest : eqb u x ≡ false → member u xs ≡ true
    in_rest q = sym (ap (λ b. b || member u xs) (eqb_swap x u ∙ q)) ∙ m

    by_head : (b : Bool) → eqb u x ≡ b → (member u xs ≡ true → chosen u ≡ true → ((k : ℕ) → member k xs ≡ true → eqb u k ≡ false → chosen k ≡ false) → gather_bit chosen xs f ≡ f u) → gather_bit chosen (x ∷ xs) f ≡ f u
    by_head true q ih =
        (λ i. (chosen (sym (same u x q) i) && f (sym (same u x q) i)) || gather_bit chosen xs f)
        ∙ (λ i. (c i && f u) || gather_bit chosen xs f) ∙ by_rest (member u xs) refl q ih
    by_head false q ih =
        (λ i. (others x (ap (λ b. b || member x xs) (eqb_refl x)) q i && f x) || gather_bit chosen xs f)
        ∙ ih (in_rest q) c rest

-- ---- the wires
module _ (sh : Shape) (p : Pipe) (t : ℕ) where
  -- the item in front runs where it is there, and is started or neither killed nor interrupted
  pub run_is : run sh p t ≡ (p.valid t && (p.started t || not (kill sh p t || irq sh p t)))
  unfolding run kill irq
  run_is = go (p.valid t) (p.started t) (p.flush t) (wrong sh p t (p.slot t).pc) (p.fetch.valid t && wrong sh p t (p.fetch.pc t)) (take_irq sh p t)
    where
      go : (v s f w o i : Bool) → (v && (s || not (f || (w || i)))) ≡ (v && (s || not ((f || cond v w o) || (i && (not s && not (f || cond v w o))))))
      go false s f w o i = refl
      go true true f w o i = refl
      go true false true w o i = refl
      go true false false true o i = refl
      go true false false false o true = refl
      go true false false false o false = refl

  -- the same as an implication
  run_parts : run sh p t ≡ true → (p.valid t && (p.started t || not (kill sh p t || irq sh p t))) ≡ true
  run_parts h = sym run_is ∙ h

  -- an item that runs is there
  pub run_valid : run sh p t ≡ true → p.valid t ≡ true
  run_valid h = and_l (p.valid t) (p.started t || not (kill sh p t || irq sh p t)) (run_parts h)

  -- and one that is not started is neither killed nor interrupted
  pub run_free : run sh p t ≡ true → p.started t ≡ false → (kill sh p t ≡ false) × (irq sh p t ≡ false)
  run_free h e =
      let r = not_true (kill sh p t || irq sh p t) (sym (ap (λ b. b || not (kill sh p t || irq sh p t)) e) ∙ and_r (p.valid t) (p.started t || not (kill sh p t || irq sh p t)) (run_parts h)) in
      (or_l (kill sh p t) (irq sh p t) r, or_r (kill sh p t) (irq sh p t) r)

  -- an item that is neither killed nor overtaken runs
  pub free_runs : p.valid t ≡ true → (kill sh p t || irq sh p t) ≡ false → run sh p t ≡ true
  free_runs v h = run_is ∙ and_yes (p.valid t) (p.started t || not (kill sh p t || irq sh p t)) v (or_true (p.started t) (not (kill sh p t || irq sh p t)) (ap not h))

  -- what an interrupt needs
  pub irq_parts : irq sh p t ≡ true → (sh.system ≡ true) × (p.system.take_irq t ≡ true) × (p.started t ≡ false) × (kill sh p t ≡ false)
  unfolding irq
  irq_parts h =
      let a = and_l (sh.system && p.system.take_irq t) (not (p.started t) && not (kill sh p t)) h in
      let b = and_r (sh.system && p.system.take_irq t) (not (p.started t) && not (kill sh p t)) h in
      (and_l sh.system (p.system.take_irq t) a, and_r sh.system (p.system.take_irq t) a, not_true (p.started t) (and_l (not (p.started t)) (not (kill sh p t)) b), not_true (kill sh p t) (and_r (not (p.started t)) (not (kill sh p t)) b))

  -- in the cycle of an interrupt nothing runs
  pub irq_no_run : irq sh p t ≡ true → run sh p t ≡ false
  irq_no_run h = run_is ∙ and_no_r (p.valid t) (p.started t || not (kill sh p t || irq sh p t)) (or_no (p.started t) (not (kill sh p t || irq sh p t)) (irq_parts h).2 (ap not (or_true (kill sh p t) (irq sh p t) h)))

  -- an item that ends runs
  pub ends_run : ends sh p t ≡ true → run sh p t ≡ true
  unfolding ends
  ends_run h = and_l (run sh p t) (through sh p t) h

  -- and none that does not run ends
  pub no_run_no_end : run sh p t ≡ false → ends sh p t ≡ false
  unfolding ends
  no_run_no_end h = and_no_l (run sh p t) (through sh p t) h

  -- without a kill there is no flush
  pub no_flush : kill sh p t ≡ false → p.flush t ≡ false
  unfolding kill
  no_flush h = or_l (p.flush t) (cond (p.valid t) (wrong sh p t (p.slot t).pc) (p.fetch.valid t && wrong sh p t (p.fetch.pc t))) h

  -- and the item in front is the next of the program
  pub on_path : p.valid t ≡ true → kill sh p t ≡ false → (p.slot t).pc ≡ p.apc t
  unfolding kill
  on_path v h = unequal_is (p.slot t).pc (p.apc t)
      (sym (cond_true (p.valid t) (wrong sh p t (p.slot t).pc) (p.fetch.valid t && wrong sh p t (p.fetch.pc t)) v)
      ∙ or_r (p.flush t) (cond (p.valid t) (wrong sh p t (p.slot t).pc) (p.fetch.valid t && wrong sh p t (p.fetch.pc t))) h)

  -- an item on the path is not killed
  pub not_killed : p.valid t ≡ true → (p.slot t).pc ≡ p.apc t → p.flush t ≡ false → kill sh p t ≡ false
  unfolding kill
  not_killed v q f =
      or_no (p.flush t) (cond (p.valid t) (wrong sh p t (p.slot t).pc) (p.fetch.valid t && wrong sh p t (p.fetch.pc t))) f
      (cond_true (p.valid t) (wrong sh p t (p.slot t).pc) (p.fetch.valid t && wrong sh p t (p.fetch.pc t)) v
      ∙ ap (λ c. not (eqb c (p.apc t))) q ∙ ap not (eqb_refl (p.apc t)))

  -- an item that is started is not interrupted
  pub started_no_irq : p.started t ≡ true → irq sh p t ≡ false
  unfolding irq
  started_no_irq h = and_no_r (sh.system && p.system.take_irq t) (not (p.started t) && not (kill sh p t)) (and_no_l (not (p.started t)) (not (kill sh p t)) (ap not h))

  -- and runs
  pub started_runs : p.valid t ≡ true → p.started t ≡ true → run sh p t ≡ true
  started_runs v h = run_is ∙ and_yes (p.valid t) (p.started t || not (kill sh p t || irq sh p t)) v (ap (λ b. b || not (kill sh p t || irq sh p t)) h)

  -- where nothing is killed, an interrupt that is asked for comes
  pub asked_is : kill sh p t ≡ false → asked sh p t ≡ irq sh p t
  unfolding asked irq
  asked_is k = go (take_irq sh p t) (p.started t) (kill sh p t) k
    where
      go : (a b d : Bool) → d ≡ false → (a && not b) ≡ (a && (not b && not d))
      go false b d h = refl
      go true true d h = refl
      go true false d h = sym (ap not h)

  -- ---- an end is a trap or a retirement

  -- what ends needs no more cycles
  pub through_is : ends sh p t ≡ true → through sh p t ≡ true
  unfolding ends
  through_is h = and_r (run sh p t) (through sh p t) h

  -- an item that ends traps where it is faulty
  pub faulty_is : ends sh p t ≡ true → traps sh p t ≡ faulty sh p t
  unfolding traps
  faulty_is h = ap (λ b. b && faulty sh p t) h

  -- by the pipeline or by its unit
  pub traps_is : ends sh p t ≡ true → traps sh p t ≡ ((p.slot t).except || trap sh p t)
  unfolding traps faulty
  traps_is h = ap (λ b. b && ((p.slot t).except || trap sh p t)) h

  -- and retires else
  pub retires_is : ends sh p t ≡ true → retires sh p t ≡ not (traps sh p t)
  unfolding retires
  retires_is h = ap (λ b. b && (not (p.slot t).except && not (trap sh p t))) h ∙ go (p.slot t).except (trap sh p t) ∙ ap not (sym (traps_is h))
    where
      go : (a b : Bool) → (not a && not b) ≡ not (a || b)
      go true b = refl
      go false b = refl

  -- where nothing ends, nothing traps, retires or writes
  pub no_end : ends sh p t ≡ false → (traps sh p t ≡ false) × (retires sh p t ≡ false) × (writes sh p t ≡ false)
  unfolding traps retires writes
  no_end h = (
    ap (λ b. b && faulty sh p t) h,
    ap (λ b. b && (not (p.slot t).except && not (trap sh p t))) h,
    ap (λ b. b && wins sh p t) h,
  )

  -- what writes ends and has a register to write
  pub writes_parts : writes sh p t ≡ true → (ends sh p t ≡ true) × ((p.slot t).writes ≡ true)
  unfolding writes wins
  writes_parts h =
      (and_l (ends sh p t) ((p.slot t).writes && not (trap sh p t)) h, and_l (p.slot t).writes (not (trap sh p t)) (and_r (ends sh p t) ((p.slot t).writes && not (trap sh p t)) h))

  -- what ends wins where it does not trap and has a register to write
  pub wins_is : ends sh p t ≡ true → ((p.slot t).except ≡ true → (p.slot t).writes ≡ false) → wins sh p t ≡ (not (traps sh p t) && (p.slot t).writes)
  unfolding wins
  wins_is h f = go (p.slot t).except (trap sh p t) (p.slot t).writes f ∙ ap (λ b. not b && (p.slot t).writes) (sym (traps_is h))
    where
      go : (a b w : Bool) → (a ≡ true → w ≡ false) → (w && not b) ≡ (not (a || b) && w)
      go true b w f = and_no_l w (not b) (f refl)
      go false true true f = refl
      go false true false f = refl
      go false false true f = refl
      go false false false f = refl

  -- and writes there
  pub writes_is : ends sh p t ≡ true → ((p.slot t).except ≡ true → (p.slot t).writes ≡ false) → writes sh p t ≡ (not (traps sh p t) && (p.slot t).writes)
  unfolding writes
  writes_is h f = ap (λ b. b && wins sh p t) h ∙ wins_is h f

  -- ---- items come and stay

  -- what keeps its stage is there and needs more cycles
  pub enters_parts : enters sh p t ≡ false → (p.valid t ≡ true) × (through sh p t ≡ false)
  unfolding enters
  enters_parts h = (not_false (p.valid t) (or_l (not (p.valid t)) (through sh p t) h), or_r (not (p.valid t)) (through sh p t) h)

  -- an item that needs more cycles keeps its stage
  pub enters_no : p.valid t ≡ true → through sh p t ≡ false → enters sh p t ≡ false
  unfolding enters
  enters_no v h = or_no (not (p.valid t)) (through sh p t) (ap not v) h

  -- an empty stage can be entered
  pub enters_none : p.valid t ≡ false → enters sh p t ≡ true
  unfolding enters
  enters_none v = ap (λ b. not b || through sh p t) v

  -- an item that runs and does not end needs more cycles
  pub not_through : ends sh p t ≡ false → run sh p t ≡ true → through sh p t ≡ false
  unfolding ends
  not_through h r = sym (ap (λ b. b && through sh p t) r) ∙ h

  -- and one that needs more does not end
  pub through_none : through sh p t ≡ false → ends sh p t ≡ false
  unfolding ends
  through_none h = and_no_r (run sh p t) (through sh p t) h

  -- where one enters and nothing is killed, the item in front ends or there is none
  pub leaves_or_none : enters sh p t ≡ true → (kill sh p t || irq sh p t) ≡ false → (p.valid t ≡ false) ⊎ (ends sh p t ≡ true)
  unfolding enters ends
  leaves_or_none h k = by (p.valid t) refl
    where
      by : (b : Bool) → p.valid t ≡ b → (p.valid t ≡ false) ⊎ ((run sh p t && through sh p t) ≡ true)
      by true v = inr (and_yes (run sh p t) (through sh p t) (free_runs v k) (sym (ap (λ b. not b || through sh p t) v) ∙ h))
      by false v = inl v

  -- what a take needs
  pub takes_parts : takes sh p t ≡ true → (p.fetch.valid t ≡ true) × (enters sh p t ≡ true) × (p.hazard.hold t ≡ false) × (kill sh p t ≡ false) × (p.stopped t ≡ false)
  unfolding takes
  takes_parts h =
      let a = and_l (p.fetch.valid t && enters sh p t) (not (p.hazard.hold t) && (not (kill sh p t) && not (p.stopped t))) h in
      let b = and_r (p.fetch.valid t && enters sh p t) (not (p.hazard.hold t) && (not (kill sh p t) && not (p.stopped t))) h in
      let d = and_r (not (p.hazard.hold t)) (not (kill sh p t) && not (p.stopped t)) b in (
        and_l (p.fetch.valid t) (enters sh p t) a,
        and_r (p.fetch.valid t) (enters sh p t) a,
        not_true (p.hazard.hold t) (and_l (not (p.hazard.hold t)) (not (kill sh p t) && not (p.stopped t)) b),
        not_true (kill sh p t) (and_l (not (kill sh p t)) (not (p.stopped t)) d),
        not_true (p.stopped t) (and_r (not (kill sh p t)) (not (p.stopped t)) d),
      )

  -- an item that works stays
  pub works_no_take : enters sh p t ≡ false → takes sh p t ≡ false
  unfolding takes
  works_no_take e = and_no_l (p.fetch.valid t && enters sh p t) (not (p.hazard.hold t) && (not (kill sh p t) && not (p.stopped t))) (and_no_r (p.fetch.valid t) (enters sh p t) e)

  -- ---- events

  -- an event is an end or an interrupt
  pub event_by : event sh p t ≡ true → (ends sh p t ≡ true) ⊎ (irq sh p t ≡ true)
  unfolding event
  event_by h = or_yes (ends sh p t) (irq sh p t) h

  -- where there is no event, nothing ends and no interrupt is taken
  pub no_event : event sh p t ≡ false → (ends sh p t ≡ false) × (irq sh p t ≡ false)
  unfolding event
  no_event h = (or_l (ends sh p t) (irq sh p t) h, or_r (ends sh p t) (irq sh p t) h)

  -- an end is an event
  pub end_event : ends sh p t ≡ true → event sh p t ≡ true
  unfolding event
  end_event h = ap (λ b. b || irq sh p t) h

  -- and an interrupt is one
  pub irq_event : irq sh p t ≡ true → event sh p t ≡ true
  unfolding event
  irq_event h = or_true (ends sh p t) (irq sh p t) h

  -- and nothing else is
  pub event_none : ends sh p t ≡ false → irq sh p t ≡ false → event sh p t ≡ false
  unfolding event
  event_none e i = or_no (ends sh p t) (irq sh p t) e i

  -- a flush kills
  pub flush_kills : p.flush t ≡ true → kill sh p t ≡ true
  unfolding kill
  flush_kills h = ap (λ b. b || cond (p.valid t) (wrong sh p t (p.slot t).pc) (p.fetch.valid t && wrong sh p t (p.fetch.pc t))) h
