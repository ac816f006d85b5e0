-- What holds of every pile.
use Rattle.std.proofs.Common.{◌≡◌, ℕ, ◌+◌, Bool, true, false, cond, T, ◌⊎◌, List, [], ◌∷◌, ◌++◌, length, Some, None, Option, sym, refl, ap, ◌∙◌, subst, inl, inr, append_assoc, append-nil, arith}
use Rattle.engine.specs.declared.Values.{Values}
use Rattle.engine.specs.declared.Row.{Row}
use Rattle.engine.specs.declared.orders.Order.{Order}
use Rattle.engine.specs.declared.answers.Fault.{Fault}
use Rattle.engine.specs.Values.{row_of}
use Rattle.engine.specs.Books.{Page, live, halted, Book, Lawful, after, reading, is_live, takes}
use Rattle.engine.specs.Calls.{Alike}
use Rattle.matching.specs.Walk.{Told}
use Rattle.ledger.specs.Ledger.{Watcher, Ledger, ledger, ledger_from, pile_of, started, entered, kept, took, ordered, ran, page_of, page_over, unless, verdict}
use Rattle.ledger.specs.Theorems.{taken_by, rows_from, rows_by, PassEach, Unbroken, FromEngine, Innermost, PileLaws, EveryPile}
use Rattle.ledger.proofs.Piling.{piles}
use Rattle.ledger.proofs.Alikes as alikes
use Rattle.ledger.proofs.Reordering.{any_order}
use Rattle.ledger.proofs.Causes.{from_engine, pass_none, none_pass, innermost}

rows_snoc : (b : Book) (o : Option Order) (rows : List Row) (t : List Order) (x : Order)
    → rows_from b o rows (t ++ (x ∷ [])) ≡ kept (row_of (Some x)) (rows_from b o rows t) (b (t ++ (x ∷ [])))
rows_snoc b o rows [] x = refl
rows_snoc b o rows (y ∷ t) x = rows_snoc (after b y) (Some y) (kept (row_of o) rows (b [])) t x

-- a beginning of a list with one more at its end is the whole or a beginning of the list
beginnings : (t : List Order) (o : Order) (s r : List Order) → t ++ (o ∷ []) ≡ s ++ r → (s ≡ t ++ (o ∷ [])) ⊎ ((q : List Order) × (t ≡ s ++ q))
beginnings t o [] r e = inr (t, refl)
beginnings [] o (x ∷ []) r e = inl (let z : x ≡ o = cc in ap (λ y. y ∷ []) z)
beginnings [] o (x ∷ (y ∷ s)) r e = absurd (let z : ◌≡◌ {A = ℕ} 0 1 = cc in omega arith)
beginnings (y ∷ t) o (x ∷ s) r e = by (beginnings t o s r (cc)) (let z : x ≡ y = cc in z) where
  by : (s ≡ t ++ (o ∷ [])) ⊎ ((q : List Order) × (t ≡ s ++ q)) → x ≡ y → (x ∷ s ≡ y ∷ (t ++ (o ∷ []))) ⊎ ((q : List Order) × (y ∷ t ≡ x ∷ (s ++ q)))
  by (inl h) k = inl (cc)
  by (inr h) k = inr (h.0, let m = h.1 in cc)

-- What a ledger that is reached from its start keeps.
record Sound (ws : List Watcher) (b : Book) (l : Ledger) : Type 0 where
  rows : l.rows ≡ rows_by b l.taken
  count : l.count ≡ length l.rows
  unbroken : l.fault ≡ None → Unbroken ws b l.taken
  broken : (f : Fault) → l.fault ≡ Some f → Unbroken ws b l.taken → ⊥
  caused : (f : Fault) → l.fault ≡ Some f → FromEngine ws (b l.taken) f ⊎ Innermost ws l.rows f

module _ (ws : List Watcher) (b : Book) where
  abbrev Fine : List Order → Type 0
  Fine s = T (is_live (b s)) × PassEach ws (rows_by b s)

  enters : (t : List Order) (line : Values → Row) (n : ℕ) (rows : List Row) (p : Page) → b t ≡ p → kept line rows p ≡ rows_by b t → n ≡ length rows
      → ((s r : List Order) → t ≡ s ++ r → (s ≡ t) ⊎ Fine s) → Sound ws b (entered ws t line n rows p)
  enters t line n rows (halted g) on same size prior = record {
    rows = same;
    count = size;
    unbroken = λ e. absurd (let z : ◌≡◌ {A = ℕ} 0 1 = cc in omega arith);
    broken = λ f e h. subst (λ p. T (is_live p)) on (h t [] (sym (append-nil t))).0;
    caused = λ f e. inl (from_engine ws (b t) g f on (cc));
  }
  enters t line n rows (live v q) on same size prior = record {
    rows = same;
    count = omega arith;
    unbroken = λ e s r k. elim (prior s r k) [ inl h ↦ subst Fine (sym h) (here e) | inr h ↦ h ];
    broken = λ f e h.
        let passed = pass_none (n + 1) (line v ∷ rows) ws (subst (PassEach ws) (sym same) (h t [] (sym (append-nil t))).1) in
        absurd (let z : ◌≡◌ {A = ℕ} 0 1 = cc in omega arith);
    caused = λ f e. inr (innermost (n + 1) (line v ∷ rows) (omega arith) (omega arith) ws f e);
  } where
    here : verdict ws (n + 1) (line v ∷ rows) ≡ None → Fine t
    here e = (subst (λ p. T (is_live p)) (sym on) tt, subst (PassEach ws) same (none_pass (n + 1) (line v ∷ rows) ws e))

  going : (l : Ledger) (o : Order) → takes (page_of ws b l) o ≡ true → l.fault ≡ None
  going l o e = by l.fault e where
    by : (fo : Option Fault) → takes (unless fo (page_over ws l.count (b l.taken))) o ≡ true → fo ≡ None
    by None e = refl
    by (Some f) e = cc

  next : (l : Ledger) (o : Order) → Sound ws b l → Sound ws b (ordered ws b l o)
  next l o sound = by (takes (page_of ws b l) o) refl where
    by : (k : Bool) → takes (page_of ws b l) o ≡ k → Sound ws b (cond k (took ws b l o) l)
    by false e = sound
    by true e =
        enters (l.taken ++ (o ∷ [])) (row_of (Some o)) l.count l.rows (b (l.taken ++ (o ∷ []))) refl
        (ap (λ rs. kept (row_of (Some o)) rs (b (l.taken ++ (o ∷ [])))) sound.rows ∙ sym (rows_snoc b None [] l.taken o))
        sound.count
        (λ s r k. elim (beginnings l.taken o s r k) [ inl h ↦ inl h | inr h ↦ inr (sound.unbroken (going l o e) s h.0 h.1) ])

  runs : (l : Ledger) → Sound ws b l → (os : List Order) → Sound ws b (ran ws b l os)
  runs l sound [] = sound
  runs l sound (o ∷ os) = runs (ordered ws b l o) (next l o sound) os

  at_start : (s r : List Order) → [] ≡ s ++ r → (s ≡ []) ⊎ Fine s
  at_start [] r e = inl refl
  at_start (x ∷ s) r e = absurd (let z : ◌≡◌ {A = ℕ} 0 1 = cc in omega arith)

  abbrev reached : List Order → Ledger
  reached os = ran ws b (started ws b) os

  sound : (os : List Order) → Sound ws b (reached os)
  sound os = runs (started ws b) (enters [] (row_of None) 0 [] (b []) refl refl refl at_start) os

  taken_more : (l : Ledger) (os : List Order) → (ran ws b l os).taken ≡ l.taken ++ taken_by (ledger_from ws b l) os
  taken_more l [] = sym (append-nil l.taken)
  taken_more l (o ∷ os) = taken_more (ordered ws b l o) os ∙ by (takes (page_of ws b l) o) (taken_by (ledger_from ws b (ordered ws b l o)) os) where
    by : (k : Bool) (more : List Order) → (cond k (took ws b l o) l).taken ++ more ≡ l.taken ++ cond k (o ∷ more) more
    by true more = append_assoc l.taken (o ∷ []) more
    by false more = refl

  taken_is : (os : List Order) → (reached os).taken ≡ taken_by (ledger ws b) os
  taken_is os = taken_more (started ws b) os

  over_live : (n : ℕ) (p : Page) → T (is_live p) → T (is_live (page_over ws n p))
  over_live n (live v w) t = t
  over_live n (halted f) t = t

  over_shows : (n : ℕ) (p : Page) → T (is_live (page_over ws n p)) → reading (page_over ws n p) ≡ reading p
  over_shows n (live v w) t = refl
  over_shows n (halted f) t = absurd t

  over_halted : (n : ℕ) (p : Page) (f : Fault) → page_over ws n p ≡ halted f → FromEngine ws p f
  over_halted n (live v w) f e = absurd (let z : ◌≡◌ {A = ℕ} 0 1 = cc in omega arith)
  over_halted n (halted g) f e = from_engine ws (halted g) g f refl (cc)

  module _ (l : Ledger) (s : Sound ws b l) where
    abbrev over : Option Fault → Page
    over fo = unless fo (page_over ws l.count (b l.taken))

    lives_on : (fo : Option Fault) → l.fault ≡ fo → Told (is_live (over fo)) (Unbroken ws b l.taken)
    lives_on None e = (λ t. s.unbroken e, λ h. over_live l.count (b l.taken) (h l.taken [] (sym (append-nil l.taken))).0)
    lives_on (Some f) e = (λ t. absurd t, λ h. s.broken f e h)

    shows_on : (fo : Option Fault) → T (is_live (over fo)) → reading (over fo) ≡ reading (b l.taken)
    shows_on None t = over_shows l.count (b l.taken) t
    shows_on (Some f) t = absurd t

    faults_on : (fo : Option Fault) → l.fault ≡ fo → (f : Fault) → over fo ≡ halted f → FromEngine ws (b l.taken) f ⊎ Innermost ws (rows_by b l.taken) f
    faults_on None k f e = inl (over_halted l.count (b l.taken) f e)
    faults_on (Some g) k f e =
        subst (λ rs. FromEngine ws (b l.taken) f ⊎ Innermost ws rs f) s.rows
        (s.caused f (k ∙ ap Some (let z : g ≡ f = cc in z)))

  laws : Lawful b → PileLaws ws b (ledger ws b)
  laws lawful = record {
    as_ledger = refl;
    lives = λ os. subst (λ t. Told (is_live (ledger ws b os)) (Unbroken ws b t)) (taken_is os) (lives_on (reached os) (sound os) (reached os).fault refl);
    shows = λ os t. shows_on (reached os) (sound os) (reached os).fault t ∙ ap (λ s. reading (b s)) (taken_is os);
    faults = λ os f e.
        subst (λ t. FromEngine ws (b t) f ⊎ Innermost ws (rows_by b t) f) (taken_is os)
        (faults_on (reached os) (sound os) (reached os).fault refl f e);
    pages_alike = λ vs d perm same. subst (λ x. Alike (ledger ws b) (pile_of vs x)) same (any_order ws vs b lawful perm);
    replies_alike = λ vs d perm same calls.
        alikes.replies_alike (ledger ws b) (pile_of vs d) (subst (λ x. Alike (ledger ws b) (pile_of vs x)) same (any_order ws vs b lawful perm)) calls;
  }

pub every_pile : EveryPile
every_pile ws b p lawful is = subst (PileLaws ws b) (sym (is ∙ piles ws b lawful)) (laws ws b lawful)
