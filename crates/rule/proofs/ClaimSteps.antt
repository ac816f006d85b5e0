-- How the answers of the readers of claims join.
use Rattle.std.proofs.Common.{◌≡◌, ℕ, zero, suc, ◌+◌, ◌<◌, ◌≤◌, Bool, true, false, T, ltb, ◌⊎◌, List, [], ◌∷◌, length, drop, sym, refl, ap, ◌∙◌, subst, inl, inr, add-one, arith, ltb→lt, lt→ltb}
use mathlib.Core.Option.{Option, none, some}
use Rattle.grammar.specs.Symbol.{Symbol, RightSquare, LeftRound, RightRound, Quote, Arrow, And, Or, Not, Has, True, Additive, Relational, Number, FieldName}
use Rattle.grammar.specs.declared.Sign.{Sign}
use Rattle.grammar.specs.declared.Sign.TheVariants.{Plus, Minus}
use Rattle.grammar.specs.declared.Relation.{Relation}
use Rattle.grammar.specs.declared.Field.{Field}
use Rattle.grammar.specs.declared.Name.{Name}
use Rattle.grammar.specs.declared.Name.TheVariants.{Plain, Newest}
use Rattle.grammar.specs.declared.Term.{Term}
use Rattle.grammar.specs.declared.Term.TheVariants.{Named}
use Rattle.grammar.specs.Tree.{Sum, first, more, terms, Claim, implication, disjunction, conjunction, negation, truth, presence, comparison}
use Rattle.grammar.specs.Views.{AtSingle, single_Not, single_LeftRound, single_True, single_Has, single_Additive, single_Number, single_FieldName, single_other, at_single, AfterSingle, after_Quote, after_Additive, after_Relational, after_And, after_Or, after_Arrow, after_RightRound, after_RightSquare, after_other, after_single}
use Rattle.grammar.specs.ClaimMachine.{ClaimFrame, claim_frame, fresh, with_sum, Side, left, right, single_wanted, single_had, name_wanted, name_had, sum_wanted, term_wanted, term_named, term_had, ClaimStep, on, stuck, if_quote, if_sign, if_and, on_both, on_had, if_room, on_term, want_name, want_term, want_sum, want_single, claim_start, claim_good, claim_bad, claim_follow, claim_run}
use Rattle.rule.specs.Readers.{Next, Lacks, LacksAll, NameEnds, plain_name, newest_name, NameFails, TermEnds, TermFails, Leads, is_minus, is_bare, SumOf, SumEnds, SumFails, ComparisonEnds, ComparisonFails, SingleEnds, SingleFails, BothSoFar, BothEnds, EitherSoFar, EitherEnds, ClaimEnds}

by_step : (t : Symbol) (ts : List Symbol) {m n : ClaimStep} → m ≡ n → claim_follow m t ts (λ s. claim_run s ts) ≡ claim_follow n t ts (λ s. claim_run s ts)
by_step t ts e = ap (λ (n : ClaimStep). claim_follow n t ts (λ s. claim_run s ts)) e

no_quote : (t : Symbol) (v : AfterSingle t) → (t ≡ Quote → ⊥) → (p : ClaimStep) (q : ClaimStep) → if_quote v p q ≡ q
no_quote t after_Quote e p q = absurd (e refl)
no_quote t (after_Additive x) e p q = refl
no_quote t (after_Relational x) e p q = refl
no_quote t after_And e p q = refl
no_quote t after_Or e p q = refl
no_quote t after_Arrow e p q = refl
no_quote t after_RightRound e p q = refl
no_quote t after_RightSquare e p q = refl
no_quote t (after_other x) e p q = refl

no_sign : (t : Symbol) (v : AfterSingle t) → ((d : Sign) → t ≡ Additive d → ⊥) → (p : Sign → ClaimStep) (q : ClaimStep) → if_sign v p q ≡ q
no_sign t after_Quote e p q = refl
no_sign t (after_Additive x) e p q = absurd (e x refl)
no_sign t (after_Relational x) e p q = refl
no_sign t after_And e p q = refl
no_sign t after_Or e p q = refl
no_sign t after_Arrow e p q = refl
no_sign t after_RightRound e p q = refl
no_sign t after_RightSquare e p q = refl
no_sign t (after_other x) e p q = refl

no_and : (t : Symbol) (v : AfterSingle t) → (t ≡ And → ⊥) → (p : ClaimStep) (q : ClaimStep) → if_and v p q ≡ q
no_and t after_Quote e p q = refl
no_and t (after_Additive x) e p q = refl
no_and t (after_Relational x) e p q = refl
no_and t after_And e p q = absurd (e refl)
no_and t after_Or e p q = refl
no_and t after_Arrow e p q = refl
no_and t after_RightRound e p q = refl
no_and t after_RightSquare e p q = refl
no_and t (after_other x) e p q = refl

no_room : (s : Sum) → 8 ≤ terms s → (n : ClaimStep) → if_room (ltb (terms s) 8) n ≡ stuck
no_room s h n = by_test (ltb (terms s) 8) refl
  where
    by_test : (b : Bool) → ltb (terms s) 8 ≡ b → if_room b n ≡ stuck
    by_test true e = absurd (let k : terms s < 8 = ltb→lt (terms s) 8 (subst T (sym e) tt) in omega arith)
    by_test false e = refl

full_takes : (i o a : Option Claim) (n : ℕ) (H : List ClaimFrame) (r : Relation) (l s : Sum) → 8 ≤ terms s → {t : Symbol} (v : AfterSingle t) → on_term (claim_frame i o a n) H (right r l) s v ≡ on_had (claim_frame i o a n) H (comparison r l s) v
full_takes i o a n H r l s h after_Quote = refl
full_takes i o a n H r l s h (after_Additive x) = no_room s h (on (term_wanted (claim_frame i o a n) H (right r l) (some s) x))
full_takes i o a n H r l s h (after_Relational x) = refl
full_takes i o a n H r l s h after_And = refl
full_takes i o a n H r l s h after_Or = refl
full_takes i o a n H r l s h after_Arrow = refl
full_takes i o a n H r l s h after_RightRound = refl
full_takes i o a n H r l s h after_RightSquare = refl
full_takes i o a n H r l s h (after_other x) = refl

full_stops : (g : ClaimFrame) (H : List ClaimFrame) (s : Sum) → 8 ≤ terms s → (t : Symbol) (v : AfterSingle t) → ((r : Relation) → t ≡ Relational r → ⊥) → on_term g H left s v ≡ stuck
full_stops g H s h t after_Quote e = refl
full_stops g H s h t (after_Additive x) e = no_room s h (on (term_wanted g H left (some s) x))
full_stops g H s h t (after_Relational x) e = absurd (e x refl)
full_stops g H s h t after_And e = refl
full_stops g H s h t after_Or e = refl
full_stops g H s h t after_Arrow e = refl
full_stops g H s h t after_RightRound e = refl
full_stops g H s h t after_RightSquare e = refl
full_stops g H s h t (after_other x) e = refl

left_stops : (g : ClaimFrame) (H : List ClaimFrame) (s : Sum) (t : Symbol) (v : AfterSingle t) → ((d : Sign) → t ≡ Additive d → ⊥) → ((r : Relation) → t ≡ Relational r → ⊥) → on_term g H left s v ≡ stuck
left_stops g H s t after_Quote d e = refl
left_stops g H s t (after_Additive x) d e = absurd (d x refl)
left_stops g H s t (after_Relational x) d e = absurd (e x refl)
left_stops g H s t after_And d e = refl
left_stops g H s t after_Or d e = refl
left_stops g H s t after_Arrow d e = refl
left_stops g H s t after_RightRound d e = refl
left_stops g H s t after_RightSquare d e = refl
left_stops g H s t (after_other x) d e = refl

-- inside round brackets, and at the `[`: what goes on with no claim stops
round_stops : (i : Option Claim) (g : ClaimFrame) (H : List ClaimFrame) (e : Claim) (t : Symbol) (v : AfterSingle t) → (t ≡ And → ⊥) → (t ≡ Or → ⊥) → (i ≡ none → t ≡ Arrow → ⊥) → (t ≡ RightRound → ⊥) → on_had (claim_frame i none none zero) (g ∷ H) e v ≡ stuck
round_stops i g H e t after_Quote a b c d = refl
round_stops i g H e t (after_Additive x) a b c d = refl
round_stops i g H e t (after_Relational x) a b c d = refl
round_stops i g H e t after_And a b c d = absurd (a refl)
round_stops i g H e t after_Or a b c d = absurd (b refl)
round_stops none g H e t after_Arrow a b c d = absurd (c refl refl)
round_stops (some i) g H e t after_Arrow a b c d = refl
round_stops i g H e t after_RightRound a b c d = absurd (d refl)
round_stops i g H e t after_RightSquare a b c d = refl
round_stops i g H e t (after_other x) a b c d = refl

square_stops : (i : Option Claim) (e : Claim) (t : Symbol) (v : AfterSingle t) → (t ≡ And → ⊥) → (t ≡ Or → ⊥) → (i ≡ none → t ≡ Arrow → ⊥) → (t ≡ RightSquare → ⊥) → on_had (claim_frame i none none zero) [] e v ≡ stuck
square_stops i e t after_Quote a b c d = refl
square_stops i e t (after_Additive x) a b c d = refl
square_stops i e t (after_Relational x) a b c d = refl
square_stops i e t after_And a b c d = absurd (a refl)
square_stops i e t after_Or a b c d = absurd (b refl)
square_stops none e t after_Arrow a b c d = absurd (c refl refl)
square_stops (some i) e t after_Arrow a b c d = refl
square_stops i e t after_RightRound a b c d = refl
square_stops i e t after_RightSquare a b c d = absurd (d refl)
square_stops i e t (after_other x) a b c d = refl

to_sum : (g : ClaimFrame) (H : List ClaimFrame) (t : Symbol) (v : AtSingle t) → (t ≡ Not → ⊥) → (t ≡ LeftRound → ⊥) → (t ≡ True → ⊥) → (t ≡ Has → ⊥) → want_single g H v ≡ want_sum g H left v
to_sum g H t single_Not a b d e = absurd (a refl)
to_sum g H t single_LeftRound a b d e = absurd (b refl)
to_sum g H t single_True a b d e = absurd (d refl)
to_sum g H t single_Has a b d e = absurd (e refl)
to_sum g H t (single_Additive x) a b d e = refl
to_sum g H t (single_Number x) a b d e = refl
to_sum g H t (single_FieldName x) a b d e = refl
to_sum g H t (single_other x) a b d e = refl

to_term : (g : ClaimFrame) (H : List ClaimFrame) (h : Side) (t : Symbol) (v : AtSingle t) → (t ≡ Additive Minus → ⊥) → want_sum g H h v ≡ want_term g H h none Plus v
to_term g H h t single_Not e = refl
to_term g H h t single_LeftRound e = refl
to_term g H h t single_True e = refl
to_term g H h t single_Has e = refl
to_term g H h t (single_Additive Plus) e = refl
to_term g H h t (single_Additive Minus) e = absurd (e refl)
to_term g H h t (single_Number x) e = refl
to_term g H h t (single_FieldName x) e = refl
to_term g H h t (single_other x) e = refl

term_stops : (g : ClaimFrame) (H : List ClaimFrame) (h : Side) (a : Option Sum) (d : Sign) (t : Symbol) (v : AtSingle t) → ((x : ℕ) → t ≡ Number x → ⊥) → ((x : Field) → t ≡ FieldName x → ⊥) → want_term g H h a d v ≡ stuck
term_stops g H h a d t single_Not m n = refl
term_stops g H h a d t single_LeftRound m n = refl
term_stops g H h a d t single_True m n = refl
term_stops g H h a d t single_Has m n = refl
term_stops g H h a d t (single_Additive x) m n = refl
term_stops g H h a d t (single_Number x) m n = absurd (m x refl)
term_stops g H h a d t (single_FieldName x) m n = absurd (n x refl)
term_stops g H h a d t (single_other x) m n = refl

term_bad : (g : ClaimFrame) (H : List ClaimFrame) (h : Side) (a : Option Sum) (d : Sign) (l : List Symbol) → LacksAll Number l → LacksAll FieldName l → claim_run (term_wanted g H h a d) l ≡ claim_bad l
term_bad g H h a d [] m n = refl
term_bad g H h a d (t ∷ l) m n = by_step t l (term_stops g H h a d t (at_single t) m n)

name_stops : (g : ClaimFrame) (H : List ClaimFrame) (t : Symbol) (v : AtSingle t) → ((x : Field) → t ≡ FieldName x → ⊥) → want_name g H v ≡ stuck
name_stops g H t single_Not n = refl
name_stops g H t single_LeftRound n = refl
name_stops g H t single_True n = refl
name_stops g H t single_Has n = refl
name_stops g H t (single_Additive x) n = refl
name_stops g H t (single_Number x) n = refl
name_stops g H t (single_FieldName x) n = absurd (n x refl)
name_stops g H t (single_other x) n = refl

name_bad : (g : ClaimFrame) (H : List ClaimFrame) (l : List Symbol) → LacksAll FieldName l → claim_run (name_wanted g H) l ≡ claim_bad l
name_bad g H [] n = refl
name_bad g H (t ∷ l) n = by_step t l (name_stops g H t (at_single t) n)

name_takes : (g : ClaimFrame) (H : List ClaimFrame) (k : Field) (l : List Symbol) → Lacks Quote l → claim_run (name_had g H k) l ≡ claim_run (single_had g H (presence (Plain k))) l
name_takes g H k [] e = refl
name_takes g H k (t ∷ l) e = by_step t l (no_quote t (after_single t) e (on (single_had g H (presence (Newest k)))) (on_had g H (presence (Plain k)) (after_single t)))

term_takes : (g : ClaimFrame) (H : List ClaimFrame) (h : Side) (a : Option Sum) (d : Sign) (k : Field) (l : List Symbol) → Lacks Quote l → claim_run (term_named g H h a d k) l ≡ claim_run (term_had g H h (with_sum a d (Named (Plain k)))) l
term_takes g H h a d k [] e = refl
term_takes g H h a d k (t ∷ l) e = by_step t l (no_quote t (after_single t) e (on (term_had g H h (with_sum a d (Named (Newest k))))) (on_term g H h (with_sum a d (Named (Plain k))) (after_single t)))

compare_takes : (g : ClaimFrame) (H : List ClaimFrame) (r : Relation) (l s : Sum) (ts : List Symbol) → LacksAll Additive ts ⊎ (8 ≤ terms s) → claim_run (term_had g H (right r l) s) ts ≡ claim_run (single_had g H (comparison r l s)) ts
compare_takes g H r l s [] p = refl
compare_takes g H r l s (t ∷ ts) (inl p) = by_step t ts (no_sign t (after_single t) p (λ d. if_room (ltb (terms s) 8) (on (term_wanted g H (right r l) (some s) d))) (on_had g H (comparison r l s) (after_single t)))
compare_takes (claim_frame i o a n) H r l s (t ∷ ts) (inr p) = by_step t ts (full_takes i o a n H r l s p (after_single t))

left_bad : (g : ClaimFrame) (H : List ClaimFrame) (s : Sum) (ts : List Symbol) → LacksAll Additive ts ⊎ (8 ≤ terms s) → LacksAll Relational ts → claim_run (term_had g H left s) ts ≡ claim_bad ts
left_bad g H s [] p e = refl
left_bad g H s (t ∷ ts) (inl p) e = by_step t ts (left_stops g H s t (after_single t) p e)
left_bad g H s (t ∷ ts) (inr p) e = by_step t ts (full_stops g H s p t (after_single t) e)

both_takes : (i o : Option Claim) (a : Claim) (H : List ClaimFrame) (x : Claim) (ts : List Symbol) → claim_run (single_had (claim_frame i o (some a) zero) H x) ts ≡ claim_run (single_had (claim_frame i o none zero) H (conjunction a x)) ts
both_takes i o a H x [] = refl
both_takes i o a H x (t ∷ ts) = refl

either_takes : (i : Option Claim) (o : Claim) (H : List ClaimFrame) (x : Claim) (ts : List Symbol) → Lacks And ts → claim_run (single_had (claim_frame i (some o) none zero) H x) ts ≡ claim_run (single_had (claim_frame i none none zero) H (disjunction o x)) ts
either_takes i o H x [] p = refl
either_takes i o H x (t ∷ ts) p =
    by_step t ts (no_and t (after_single t) p (on (single_wanted (claim_frame i (some o) (some x) zero) H)) (on_both i (some o) H x (after_single t))
    ∙ sym (no_and t (after_single t) p (on (single_wanted (claim_frame i none (some (disjunction o x)) zero) H)) (on_both i none H (disjunction o x) (after_single t))))

round_bad : (i : Option Claim) (g : ClaimFrame) (H : List ClaimFrame) (e : Claim) (l : List Symbol) → Lacks And l → Lacks Or l → (i ≡ none → Lacks Arrow l) → Lacks RightRound l → claim_run (single_had (claim_frame i none none zero) (g ∷ H) e) l ≡ claim_bad l
round_bad i g H e [] a b c d = refl
round_bad i g H e (t ∷ l) a b c d = by_step t l (round_stops i g H e t (after_single t) a b c d)

square_bad : (i : Option Claim) (e : Claim) (l : List Symbol) → Lacks And l → Lacks Or l → (i ≡ none → Lacks Arrow l) → Lacks RightSquare l → claim_run (single_had (claim_frame i none none zero) [] e) l ≡ claim_bad l
square_bad i e [] a b c d = refl
square_bad i e (t ∷ l) a b c d = by_step t l (square_stops i e t (after_single t) a b c d)

sum_is_term : (g : ClaimFrame) (H : List ClaimFrame) (h : Side) (l : List Symbol) → Lacks (Additive Minus) l → claim_run (sum_wanted g H h) l ≡ claim_run (term_wanted g H h none Plus) l
sum_is_term g H h [] e = refl
sum_is_term g H h (t ∷ l) e = by_step t l (to_term g H h t (at_single t) e)

single_is_sum : (g : ClaimFrame) (H : List ClaimFrame) (l : List Symbol) → Lacks Not l → Lacks LeftRound l → Lacks True l → Lacks Has l → claim_run (single_wanted g H) l ≡ claim_run (sum_wanted g H left) l
single_is_sum g H [] a b d e = refl
single_is_sum g H (t ∷ l) a b d e = by_step t l (to_sum g H t (at_single t) a b d e)

none_some : {A : Type 0} {x : Claim} → some x ≡ none → A
none_some e = absurd (let z : ◌≡◌ {A = ℕ} 0 1 = cc in omega arith)

not_takes : (i o a : Option Claim) (n : ℕ) (H : List ClaimFrame) (x : Claim) (l : List Symbol) → claim_run (single_had (claim_frame i o a (suc n)) H x) l ≡ claim_run (single_had (claim_frame i o a n) H (negation x)) l
not_takes i o a n H x [] = refl
not_takes i o a n H x (t ∷ l) = refl

room_runs : (g : ClaimFrame) (H : List ClaimFrame) (h : Side) (s : Sum) (d : Sign) (l : List Symbol) → terms s < 8 → claim_run (term_had g H h s) (Additive d ∷ l) ≡ claim_run (term_wanted g H h (some s) d) l
room_runs g H h s d l p = by_step (Additive d) l (room (ltb (terms s) 8) (lt→ltb (terms s) 8 p))
  where
    room : (b : Bool) → T b → if_room b (on (term_wanted g H h (some s) d)) ≡ on (term_wanted g H h (some s) d)
    room true q = refl
    room false q = absurd q

module _ (ts : List Symbol) where
  -- a name
  two : (at : ℕ) → at + 1 + 1 ≡ at + 2
  two at = omega arith

  pub name_newest : (at : ℕ) (w : Field) → Next ts at (FieldName w) → Next ts (at + 1) Quote → NameEnds ts at (at + 2) (Newest w)
  name_newest at w n m = newest_name w m.within (n.here ∙ ap (λ (l : List Symbol). FieldName w ∷ l) (m.here ∙ ap (λ (k : ℕ). Quote ∷ drop k ts) (two at)))

  pub name_plain : (at : ℕ) (w : Field) → Next ts at (FieldName w) → Lacks Quote (drop (at + 1) ts) → NameEnds ts at (at + 1) (Plain w)
  name_plain at w n m = plain_name w n.within n.here m

  pub name_on : {at p : ℕ} {l : Name} → NameEnds ts at p l → (at < p) × (p ≤ length ts)
  name_on (plain_name w h e n) = (omega arith, omega arith)
  name_on (newest_name w h e) = (omega arith, omega arith)

  known_runs : {at p : ℕ} {l : Name} → NameEnds ts at p l → (g : ClaimFrame) (H : List ClaimFrame) → claim_run (name_wanted g H) (drop at ts) ≡ claim_run (single_had g H (presence l)) (drop p ts)
  known_runs {at = at} (plain_name w h e n) g H = ap (claim_run (name_wanted g H)) e ∙ name_takes g H w (drop (at + 1) ts) n
  known_runs (newest_name w h e) g H = ap (claim_run (name_wanted g H)) e

  named_runs : {at p : ℕ} {l : Name} → NameEnds ts at p l → (g : ClaimFrame) (H : List ClaimFrame) (h : Side) (a : Option Sum) (d : Sign) → claim_run (term_wanted g H h a d) (drop at ts) ≡ claim_run (term_had g H h (with_sum a d (Named l))) (drop p ts)
  named_runs {at = at} (plain_name w k e n) g H h a d = ap (claim_run (term_wanted g H h a d)) e ∙ term_takes g H h a d w (drop (at + 1) ts) n
  named_runs (newest_name w k e) g H h a d = ap (claim_run (term_wanted g H h a d)) e

  -- a term
  pub term_name : (at p : ℕ) (l : Name) → NameEnds ts at p l → TermEnds ts at p (Named l)
  term_name at p l n = let h = name_on n in record { on = h.0; within = h.1; runs = named_runs n }

  pub term_none : (at k : ℕ) → at ≤ length ts → LacksAll Number (drop at ts) → NameFails ts at k → TermFails ts at k
  term_none at k h m n =
      subst (TermFails ts at) (sym n.here) (record { within = h; runs = λ g H f a d. term_bad g H f a d (drop at ts) m n.none })

  -- a sum
  pub lead_on : {at from : ℕ} {d : Sign} → Leads ts at d from → at ≤ length ts → (at ≤ from) × (from ≤ length ts)
  lead_on (is_minus h e) k = (omega arith, omega arith)
  lead_on (is_bare e) k = (omega arith, k)

  lead_runs : {at from : ℕ} {d : Sign} → Leads ts at d from → (g : ClaimFrame) (H : List ClaimFrame) (h : Side) → claim_run (sum_wanted g H h) (drop at ts) ≡ claim_run (term_wanted g H h none d) (drop from ts)
  lead_runs (is_minus k e) g H h = ap (claim_run (sum_wanted g H h)) e
  lead_runs {at = at} (is_bare e) g H h = sum_is_term g H h (drop at ts) e

  pub sum_first : (at from p : ℕ) (d : Sign) (x : Term) → at ≤ length ts → Leads ts at d from → TermEnds ts from p x → SumOf ts at 1 p (first d x)
  sum_first at from p d x k l t = record {
    so_far = record { on = omega (arith, lead_on l k, t.on); within = t.within; runs = λ g H h. lead_runs l g H h ∙ t.runs g H h none d };
    count = refl;
  }

  pub sum_none : (at from k : ℕ) (d : Sign) → Leads ts at d from → TermFails ts from k → SumFails ts at k
  sum_none at from k d l t = record { within = t.within; runs = λ g H h. lead_runs l g H h ∙ t.runs g H h none d }

  pub sum_more : (at p q n : ℕ) (d : Sign) (x : Sum) (y : Term) → SumOf ts at n p x → n < 8 → Next ts p (Additive d) → TermEnds ts (p + 1) q y → SumOf ts at (n + 1) q (more x d y)
  sum_more at p q n d x y s k m t = record {
    so_far = record {
      on = omega (arith, s.so_far.on, t.on);
      within = t.within;
      runs = λ g H h. s.so_far.runs g H h ∙ ap (claim_run (term_had g H h x)) m.here ∙ room_runs g H h x d (drop (p + 1) ts) (omega (arith, s.count)) ∙ t.runs g H h (some x) d;
    };
    count = ap suc s.count ∙ sym (add-one n);
  }

  -- a comparison
  pub comparison_done : (at p q : ℕ) (r : Relation) (x y : Sum) → SumEnds ts at p x → Next ts p (Relational r) → SumEnds ts (p + 1) q y → ComparisonEnds ts at q (comparison r x y)
  comparison_done at p q r x y a n b =
      let s = a.so_far in
      let t = b.so_far in
      record {
        on = omega (arith, s.on, t.on);
        within = t.within;
        runs = λ g H. s.runs g H left ∙ ap (claim_run (term_had g H left x)) n.here ∙ t.runs g H (right r x) ∙ compare_takes g H r x y (drop q ts) b.over;
      }

  pub comparison_cut : (at p : ℕ) (x : Sum) → SumEnds ts at p x → LacksAll Relational (drop p ts) → ComparisonFails ts at p
  comparison_cut at p x a n = let s = a.so_far in record { within = s.within; runs = λ g H. s.runs g H left ∙ left_bad g H x (drop p ts) a.over n }

  -- a single
  pub single_true : (at : ℕ) → Next ts at True → SingleEnds ts at (at + 1) truth
  single_true at n = record { on = omega arith; within = omega (arith, n.within); runs = λ g H. ap (claim_run (single_wanted g H)) n.here }

  not_runs : (at p : ℕ) (x : Claim) → Next ts at Not → SingleEnds ts (at + 1) p x → (g : ClaimFrame) (H : List ClaimFrame) → claim_run (single_wanted g H) (drop at ts) ≡ claim_run (single_had g H (negation x)) (drop p ts)
  not_runs at p x m s (claim_frame i o a n) H = ap (claim_run (single_wanted (claim_frame i o a n) H)) m.here ∙ s.runs (claim_frame i o a (suc n)) H ∙ not_takes i o a n H x (drop p ts)

  pub single_not : (at p : ℕ) (x : Claim) → Next ts at Not → SingleEnds ts (at + 1) p x → SingleEnds ts at p (negation x)
  single_not at p x m s = record { on = omega (arith, s.on); within = s.within; runs = not_runs at p x m s }

  pub single_has : (at p : ℕ) (l : Name) → Next ts at Has → NameEnds ts (at + 1) p l → SingleEnds ts at p (presence l)
  single_has at p l m n = let h = name_on n in record { on = omega (arith, h); within = h.1; runs = λ g H. ap (claim_run (single_wanted g H)) m.here ∙ known_runs n g H }

  pub single_has_fails : (at k : ℕ) → Next ts at Has → NameFails ts (at + 1) k → SingleFails ts at k
  single_has_fails at k m n = subst (SingleFails ts at) (sym n.here) (record { within = omega (arith, m.within); runs = λ g H. ap (claim_run (single_wanted g H)) m.here ∙ name_bad g H (drop (at + 1) ts) n.none })

  pub single_compare : (at p : ℕ) (x : Claim) → Lacks Not (drop at ts) → Lacks LeftRound (drop at ts) → Lacks True (drop at ts) → Lacks Has (drop at ts) → ComparisonEnds ts at p x → SingleEnds ts at p x
  single_compare at p x a b d f s = record { on = s.on; within = s.within; runs = λ g H. single_is_sum g H (drop at ts) a b d f ∙ s.runs g H }

  pub single_compare_fails : (at k : ℕ) → Lacks Not (drop at ts) → Lacks LeftRound (drop at ts) → Lacks True (drop at ts) → Lacks Has (drop at ts) → ComparisonFails ts at k → SingleFails ts at k
  single_compare_fails at k a b d f s = record { within = s.within; runs = λ g H. single_is_sum g H (drop at ts) a b d f ∙ s.runs g H }

  pub single_unclosed : (at p : ℕ) (x : Claim) → Next ts at LeftRound → ClaimEnds ts (at + 1) p x → Lacks RightRound (drop p ts) → SingleFails ts at p
  single_unclosed at p x m s n = record {
    within = s.within;
    runs = λ g H. ap (claim_run (single_wanted g H)) m.here ∙ s.runs (g ∷ H) ∙ round_bad s.before g H s.last (drop p ts) s.and_over s.or_over s.arrow_over n;
  }

  -- a both
  pub both_more : (at p q : ℕ) (x y : Claim) → BothSoFar ts at p x → Next ts p And → SingleEnds ts (p + 1) q y → BothSoFar ts at q (conjunction x y)
  both_more at p q x y s n t = record {
    on = omega (arith, s.on, t.on);
    within = t.within;
    runs = λ i o H. s.runs i o H ∙ ap (claim_run (single_had (claim_frame i o none zero) H x)) n.here ∙ t.runs (claim_frame i o (some x) zero) H ∙ both_takes i o x H y (drop q ts);
  }

  -- an either
  pub either_more : (at p q : ℕ) (x y : Claim) → EitherSoFar ts at p x → Next ts p Or → BothEnds ts (p + 1) q y → EitherSoFar ts at q (disjunction x y)
  either_more at p q x y s n b =
      let t = b.so_far in
      record {
        on = omega (arith, s.on, t.on);
        within = t.within;
        runs = λ i H. s.runs i H ∙ ap (claim_run (single_had (claim_frame i none none zero) H x)) n.here ∙ t.runs i (some x) H ∙ either_takes i x H y (drop q ts) b.over;
        and_over = b.over;
      }

  -- a claim
  pub claim_one : (at p : ℕ) (x : Claim) → EitherEnds ts at p x → Lacks Arrow (drop p ts) → ClaimEnds ts at p x
  claim_one at p x s n =
      let t = s.so_far in
      record { on = t.on; within = t.within; before = none; last = x; joined = refl; runs = λ H. t.runs none H; and_over = t.and_over; or_over = s.over; arrow_over = λ e. n }

  pub claim_two : (at p q : ℕ) (x y : Claim) → EitherEnds ts at p x → Next ts p Arrow → EitherEnds ts (p + 1) q y → ClaimEnds ts at q (implication x y)
  claim_two at p q x y a n b =
      let s = a.so_far in
      let t = b.so_far in
      record {
        on = omega (arith, s.on, t.on);
        within = t.within;
        before = some x;
        last = y;
        joined = refl;
        runs = λ H. s.runs none H ∙ ap (claim_run (single_had fresh H x)) n.here ∙ t.runs (some x) H;
        and_over = t.and_over;
        or_over = b.over;
        arrow_over = λ e. none_some e;
      }

  -- and its `]`
  pub claim_closed : (at p : ℕ) (x : Claim) → ClaimEnds ts at p x → Next ts p RightSquare → claim_run claim_start (drop at ts) ≡ claim_good x (drop (p + 1) ts)
  claim_closed at p x s n = s.runs [] ∙ ap (claim_run (single_had (claim_frame s.before none none zero) [] s.last)) n.here ∙ ap (λ (c : Claim). claim_good c (drop (p + 1) ts)) s.joined

  pub claim_cut : (at p : ℕ) (x : Claim) → ClaimEnds ts at p x → Lacks RightSquare (drop p ts) → claim_run claim_start (drop at ts) ≡ claim_bad (drop p ts)
  claim_cut at p x s n = s.runs [] ∙ square_bad s.before s.last (drop p ts) s.and_over s.or_over s.arrow_over n
