-- Complete, for claims: the machine reads each claim to its tree.
use Rattle.std.proofs.Common.{◌≡◌, ℕ, zero, suc, ◌<◌, ◌≤◌, Bool, true, false, T, ltb, leb, List, [], ◌∷◌, ◌++◌, sym, refl, ap, ◌∙◌, append_assoc, arith, le→leb, lt→ltb, leb→le}
use mathlib.Core.Option.{Option, none, some}
use Rattle.grammar.specs.Symbol.{Sign, Plus, Minus, Relation, Symbol, RightSquare, RightRound, Arrow, And, Or, Additive, Relational, Field, Name, Plain, Newest, Term, Named}
use Rattle.grammar.specs.Tree.{Sum, terms, Claim, implication, disjunction, conjunction, negation, presence, comparison}
use Rattle.grammar.specs.Claims.{IsName, unquoted, quoted, IsTerm, a_number, a_name, Terms, one_term, minus_term, joined_terms, to_eight, IsClaim, one_either, implied, IsEither, one_both, joined_boths, IsBoth, one_single, joined_singles, IsSingle, denied, bracketed, is_true, is_known, compared}
use Rattle.grammar.specs.Views.{AfterSingle, after_Quote, after_Additive, after_Relational, after_And, after_Or, after_Arrow, after_RightRound, after_RightSquare, after_other, after_single}
use Rattle.grammar.specs.ClaimMachine.{ClaimFrame, claim_frame, fresh, with_if, with_sum, Side, left, right, ClaimState, single_wanted, single_had, name_wanted, name_had, sum_wanted, term_wanted, term_named, term_had, ClaimStep, on, if_quote, if_sign, if_and, if_or, on_either, on_both, on_had, if_room, on_term, claim_start, claim_good, claim_follow, claim_run}

-- how far out the thing is that a token can still go on with: 0 a name, 1 a sum, 2 a both, 3 an either, 4 a claim, 5 none of them
abbrev pub rank : {t : Symbol} → AfterSingle t → ℕ
rank after_Quote = 0
rank (after_Additive x) = 1
rank (after_Relational x) = 5
rank after_And = 2
rank after_Or = 3
rank after_Arrow = 4
rank after_RightRound = 5
rank after_RightSquare = 5
rank (after_other x) = 5

-- all that is below `k` is over
abbrev pub Past : ℕ → List Symbol → Type 0
Past k [] = Unit {0}
Past k (t ∷ ts) = T (leb k (rank (after_single t)))

pub past_less : (j k : ℕ) (ts : List Symbol) → j ≤ k → Past k ts → Past j ts
past_less j k [] h p = tt
past_less j k (t ∷ ts) h p = let q : k ≤ rank (after_single t) = leb→le k (rank (after_single t)) p in le→leb j (rank (after_single t)) (omega arith)

no_quote : {t : Symbol} (v : AfterSingle t) → T (leb 1 (rank v)) → (p : ClaimStep) (q : ClaimStep) → if_quote v p q ≡ q
no_quote after_Quote h p q = absurd h
no_quote (after_Additive x) h p q = refl
no_quote (after_Relational x) h p q = refl
no_quote after_And h p q = refl
no_quote after_Or h p q = refl
no_quote after_Arrow h p q = refl
no_quote after_RightRound h p q = refl
no_quote after_RightSquare h p q = refl
no_quote (after_other x) h p q = refl

no_sign : {t : Symbol} (v : AfterSingle t) → T (leb 2 (rank v)) → (p : Sign → ClaimStep) (q : ClaimStep) → if_sign v p q ≡ q
no_sign after_Quote h p q = absurd h
no_sign (after_Additive x) h p q = absurd h
no_sign (after_Relational x) h p q = refl
no_sign after_And h p q = refl
no_sign after_Or h p q = refl
no_sign after_Arrow h p q = refl
no_sign after_RightRound h p q = refl
no_sign after_RightSquare h p q = refl
no_sign (after_other x) h p q = refl

no_and : {t : Symbol} (v : AfterSingle t) → T (leb 3 (rank v)) → (p : ClaimStep) (q : ClaimStep) → if_and v p q ≡ q
no_and after_Quote h p q = absurd h
no_and (after_Additive x) h p q = absurd h
no_and (after_Relational x) h p q = refl
no_and after_And h p q = absurd h
no_and after_Or h p q = refl
no_and after_Arrow h p q = refl
no_and after_RightRound h p q = refl
no_and after_RightSquare h p q = refl
no_and (after_other x) h p q = refl

no_or : {t : Symbol} (v : AfterSingle t) → T (leb 4 (rank v)) → (p : ClaimStep) (q : ClaimStep) → if_or v p q ≡ q
no_or after_Quote h p q = absurd h
no_or (after_Additive x) h p q = absurd h
no_or (after_Relational x) h p q = refl
no_or after_And h p q = absurd h
no_or after_Or h p q = absurd h
no_or after_Arrow h p q = refl
no_or after_RightRound h p q = refl
no_or after_RightSquare h p q = refl
no_or (after_other x) h p q = refl

no_if : {t : Symbol} (v : AfterSingle t) → T (leb 5 (rank v)) → (i : Option Claim) (H : List ClaimFrame) (e : Claim) → on_either i H e v ≡ on_either none H (with_if i e) v
no_if after_Quote h i H e = absurd h
no_if (after_Additive x) h i H e = absurd h
no_if (after_Relational x) h i H e = refl
no_if after_And h i H e = absurd h
no_if after_Or h i H e = absurd h
no_if after_Arrow h i H e = absurd h
no_if after_RightRound h i [] e = refl
no_if after_RightRound h i (g ∷ H) e = refl
no_if after_RightSquare h i [] e = refl
no_if after_RightSquare h i (g ∷ H) e = refl
no_if (after_other x) h i H e = refl

by_step : (t : Symbol) (ts : List Symbol) {m n : ClaimStep} → m ≡ n → claim_follow m t ts (λ s. claim_run s ts) ≡ claim_follow n t ts (λ s. claim_run s ts)
by_step t ts e = ap (λ (n : ClaimStep). claim_follow n t ts (λ s. claim_run s ts)) e

-- once a thing is over, what stands open before it takes it in
name_takes : (g : ClaimFrame) (H : List ClaimFrame) (k : Field) (ts : List Symbol) → Past 1 ts → claim_run (name_had g H k) ts ≡ claim_run (single_had g H (presence (Plain k))) ts
name_takes g H k [] h = refl
name_takes g H k (t ∷ ts) h = by_step t ts (no_quote (after_single t) h (on (single_had g H (presence (Newest k)))) (on_had g H (presence (Plain k)) (after_single t)))

term_takes : (g : ClaimFrame) (H : List ClaimFrame) (h : Side) (a : Option Sum) (d : Sign) (k : Field) (ts : List Symbol) → Past 1 ts → claim_run (term_named g H h a d k) ts ≡ claim_run (term_had g H h (with_sum a d (Named (Plain k)))) ts
term_takes g H h a d k [] p = refl
term_takes g H h a d k (t ∷ ts) p = by_step t ts (no_quote (after_single t) p (on (term_had g H h (with_sum a d (Named (Newest k))))) (on_term g H h (with_sum a d (Named (Plain k))) (after_single t)))

compare_takes : (g : ClaimFrame) (H : List ClaimFrame) (r : Relation) (l s : Sum) (ts : List Symbol) → Past 2 ts → claim_run (term_had g H (right r l) s) ts ≡ claim_run (single_had g H (comparison r l s)) ts
compare_takes g H r l s [] p = refl
compare_takes g H r l s (t ∷ ts) p = by_step t ts (no_sign (after_single t) p (λ d. if_room (ltb (terms s) 8) (on (term_wanted g H (right r l) (some s) d))) (on_had g H (comparison r l s) (after_single t)))

not_takes : (i o a : Option Claim) (n : ℕ) (H : List ClaimFrame) (x : Claim) (ts : List Symbol) → claim_run (single_had (claim_frame i o a (suc n)) H x) ts ≡ claim_run (single_had (claim_frame i o a n) H (negation x)) ts
not_takes i o a n H x [] = refl
not_takes i o a n H x (t ∷ ts) = refl

both_takes : (i o : Option Claim) (a : Claim) (H : List ClaimFrame) (x : Claim) (ts : List Symbol) → claim_run (single_had (claim_frame i o (some a) zero) H x) ts ≡ claim_run (single_had (claim_frame i o none zero) H (conjunction a x)) ts
both_takes i o a H x [] = refl
both_takes i o a H x (t ∷ ts) = refl

either_takes : (i : Option Claim) (o : Claim) (H : List ClaimFrame) (x : Claim) (ts : List Symbol) → Past 3 ts → claim_run (single_had (claim_frame i (some o) none zero) H x) ts ≡ claim_run (single_had (claim_frame i none none zero) H (disjunction o x)) ts
either_takes i o H x [] p = refl
either_takes i o H x (t ∷ ts) p =
    by_step t ts (no_and (after_single t) p (on (single_wanted (claim_frame i (some o) (some x) zero) H)) (on_both i (some o) H x (after_single t))
    ∙ sym (no_and (after_single t) p (on (single_wanted (claim_frame i none (some (disjunction o x)) zero) H)) (on_both i none H (disjunction o x) (after_single t))))

if_takes : (i : Claim) (H : List ClaimFrame) (x : Claim) (ts : List Symbol) → Past 5 ts → claim_run (single_had (claim_frame (some i) none none zero) H x) ts ≡ claim_run (single_had fresh H (implication i x)) ts
if_takes i H x [] p = refl
if_takes i H x (t ∷ ts) p =
    let v = after_single t in
    let p₃ : T (leb 3 (rank v)) = past_less 3 5 (t ∷ ts) (omega arith) p in
    let p₄ : T (leb 4 (rank v)) = past_less 4 5 (t ∷ ts) (omega arith) p in
    by_step t ts
    (no_and v p₃ (on (single_wanted (claim_frame (some i) none (some x) zero) H)) (on_both (some i) none H x v)
    ∙ no_or v p₄ (on (single_wanted (claim_frame (some i) (some x) none zero) H)) (on_either (some i) H x v)
    ∙ no_if v p (some i) H x
    ∙ sym (no_or v p₄ (on (single_wanted (claim_frame none (some (implication i x)) none zero) H)) (on_either none H (implication i x) v))
    ∙ sym (no_and v p₃ (on (single_wanted (claim_frame none none (some (implication i x)) zero) H)) (on_both none none H (implication i x) v)))

regroup : (s : ClaimState) (us vs ts : List Symbol) → claim_run s ((us ++ vs) ++ ts) ≡ claim_run s (us ++ (vs ++ ts))
regroup s us vs ts = ap (claim_run s) (append_assoc us vs ts)

known_runs : {us : List Symbol} {l : Name} → IsName us l → (g : ClaimFrame) (H : List ClaimFrame) (ts : List Symbol) → Past 1 ts → claim_run (name_wanted g H) (us ++ ts) ≡ claim_run (single_had g H (presence l)) ts
known_runs (unquoted k) g H ts p = name_takes g H k ts p
known_runs (quoted k) g H ts p = refl

term_runs : {us : List Symbol} {x : Term} → IsTerm us x → (g : ClaimFrame) (H : List ClaimFrame) (h : Side) (a : Option Sum) (d : Sign) (ts : List Symbol) → Past 1 ts → claim_run (term_wanted g H h a d) (us ++ ts) ≡ claim_run (term_had g H h (with_sum a d x)) ts
term_runs (a_number n) g H h a d ts p = refl
term_runs (a_name (unquoted k)) g H h a d ts p = term_takes g H h a d k ts p
term_runs (a_name (quoted k)) g H h a d ts p = refl

abbrev sum_start : ClaimFrame → List ClaimFrame → Side → ClaimState
sum_start g H left = single_wanted g H
sum_start g H (right r l) = sum_wanted g H (right r l)

first_runs : {us : List Symbol} {x : Term} → IsTerm us x → (g : ClaimFrame) (H : List ClaimFrame) (h : Side) (ts : List Symbol) → claim_run (sum_start g H h) (us ++ ts) ≡ claim_run (term_wanted g H h none Plus) (us ++ ts)
first_runs (a_number n) g H left ts = refl
first_runs (a_number n) g H (right r l) ts = refl
first_runs (a_name (unquoted k)) g H left ts = refl
first_runs (a_name (unquoted k)) g H (right r l) ts = refl
first_runs (a_name (quoted k)) g H left ts = refl
first_runs (a_name (quoted k)) g H (right r l) ts = refl

minus_runs : (g : ClaimFrame) (H : List ClaimFrame) (h : Side) (ts : List Symbol) → claim_run (sum_start g H h) (Additive Minus ∷ ts) ≡ claim_run (term_wanted g H h none Minus) ts
minus_runs g H left ts = refl
minus_runs g H (right r l) ts = refl

more_runs : (g : ClaimFrame) (H : List ClaimFrame) (h : Side) (s : Sum) (d : Sign) (ts : List Symbol) → terms s < 8 → claim_run (term_had g H h s) (Additive d ∷ ts) ≡ claim_run (term_wanted g H h (some s) d) ts
more_runs g H h s d ts p = by_step (Additive d) ts (room (ltb (terms s) 8) (lt→ltb (terms s) 8 p))
  where
    room : (b : Bool) → T b → if_room b (on (term_wanted g H h (some s) d)) ≡ on (term_wanted g H h (some s) d)
    room true q = refl
    room false q = absurd q

terms_runs : {us : List Symbol} {s : Sum} → Terms us s → terms s ≤ 8 → (g : ClaimFrame) (H : List ClaimFrame) (h : Side) (ts : List Symbol) → Past 1 ts → claim_run (sum_start g H h) (us ++ ts) ≡ claim_run (term_had g H h s) ts
terms_runs (one_term e) q g H h ts p = first_runs e g H h ts ∙ term_runs e g H h none Plus ts p
terms_runs (minus_term {us = us} e) q g H h ts p = minus_runs g H h (us ++ ts) ∙ term_runs e g H h none Minus ts p
terms_runs (joined_terms {us = us} {vs = vs} {s = s} e d f) q g H h ts p =
    regroup (sum_start g H h) us (Additive d ∷ vs) ts
    ∙ terms_runs e (omega arith) g H h (Additive d ∷ (vs ++ ts)) tt
    ∙ more_runs g H h s d (vs ++ ts) q
    ∙ term_runs f g H h (some s) d ts p

mutual
  pub claim_reads : {us : List Symbol} {x : Claim} → IsClaim us x → (H : List ClaimFrame) (ts : List Symbol) → Past 5 ts → claim_run (single_wanted fresh H) (us ++ ts) ≡ claim_run (single_had fresh H x) ts
  claim_reads (one_either d) H ts p = either_reads d none H ts (past_less 3 5 ts (omega arith) p)
  claim_reads (implied {us = us} {vs = vs} {x = x} {y = y} d e) H ts p =
      regroup (single_wanted fresh H) us (Arrow ∷ vs) ts
      ∙ either_reads d none H (Arrow ∷ (vs ++ ts)) tt
      ∙ either_reads e (some x) H ts (past_less 3 5 ts (omega arith) p)
      ∙ if_takes x H y ts p

  pub either_reads : {us : List Symbol} {x : Claim} → IsEither us x → (i : Option Claim) (H : List ClaimFrame) (ts : List Symbol) → Past 3 ts → claim_run (single_wanted (claim_frame i none none zero) H) (us ++ ts) ≡ claim_run (single_had (claim_frame i none none zero) H x) ts
  either_reads (one_both d) i H ts p = both_reads d i none H ts (past_less 2 3 ts (omega arith) p)
  either_reads (joined_boths {us = us} {vs = vs} {x = x} {y = y} d e) i H ts p =
      regroup (single_wanted (claim_frame i none none zero) H) us (Or ∷ vs) ts
      ∙ either_reads d i H (Or ∷ (vs ++ ts)) tt
      ∙ both_reads e i (some x) H ts (past_less 2 3 ts (omega arith) p)
      ∙ either_takes i x H y ts p

  pub both_reads : {us : List Symbol} {x : Claim} → IsBoth us x → (i o : Option Claim) (H : List ClaimFrame) (ts : List Symbol) → Past 2 ts → claim_run (single_wanted (claim_frame i o none zero) H) (us ++ ts) ≡ claim_run (single_had (claim_frame i o none zero) H x) ts
  both_reads (one_single d) i o H ts p = single_reads d i o none zero H ts p
  both_reads (joined_singles {us = us} {vs = vs} {x = x} {y = y} d e) i o H ts p =
      regroup (single_wanted (claim_frame i o none zero) H) us (And ∷ vs) ts
      ∙ both_reads d i o H (And ∷ (vs ++ ts)) tt
      ∙ single_reads e i o (some x) zero H ts p
      ∙ both_takes i o x H y ts

  pub single_reads : {us : List Symbol} {x : Claim} → IsSingle us x → (i o a : Option Claim) (n : ℕ) (H : List ClaimFrame) (ts : List Symbol) → Past 2 ts → claim_run (single_wanted (claim_frame i o a n) H) (us ++ ts) ≡ claim_run (single_had (claim_frame i o a n) H x) ts
  single_reads (denied {x = x} d) i o a n H ts p = single_reads d i o a (suc n) H ts p ∙ not_takes i o a n H x ts
  single_reads (bracketed {us = us} d) i o a n H ts p = regroup (single_wanted fresh (claim_frame i o a n ∷ H)) us (RightRound ∷ []) ts ∙ claim_reads d (claim_frame i o a n ∷ H) (RightRound ∷ ts) tt
  single_reads is_true i o a n H ts p = refl
  single_reads (is_known d) i o a n H ts p = known_runs d (claim_frame i o a n) H ts (past_less 1 2 ts (omega arith) p)
  single_reads (compared {us = us} {vs = vs} {s = s} {t = t} (to_eight d q) r (to_eight e q')) i o a n H ts p =
      regroup (single_wanted (claim_frame i o a n) H) us (Relational r ∷ vs) ts
      ∙ terms_runs d q (claim_frame i o a n) H left (Relational r ∷ (vs ++ ts)) tt
      ∙ terms_runs e q' (claim_frame i o a n) H (right r s) ts (past_less 1 2 ts (omega arith) p)
      ∙ compare_takes (claim_frame i o a n) H r s t ts p

pub claim_runs : {us : List Symbol} {c : Claim} → IsClaim us c → (ts : List Symbol) → claim_run claim_start (us ++ (RightSquare ∷ ts)) ≡ claim_good c ts
claim_runs d ts = claim_reads d [] (RightSquare ∷ ts) tt
