-- What the cutter finds at a place is how the text is cut there.
use Rattle.std.proofs.Common.{◌≡◌, ℕ, ◌+◌, ◌≤◌, true, false, eqb, List, [], ◌∷◌, ◌++◌, length, get_or, take, drop, Some, None, Ok, Err, Option, Result, sym, refl, ap, ◌∙◌, subst, append_assoc, add-zero, add_assoc, one-add, arith}
use mathlib.Core.Path.{subst₃}
use Rattle.std.specs.Char.{is_ascii_digit, is_ascii_alphabetic}
use Rattle.std.specs.List.{prefix_len}
use Rattle.std.proofs.lemmas.List.{take-append-drop, length-take-le, drop-drop}
use Rattle.std.proofs.lemmas.List.Sums.{prefix_len-le-length}
use Rattle.std.proofs.lemmas.Bool.{eqb-true, le-leb, cond-true, cond-false, cond_both}
use Rattle.std.proofs.lemmas.Bool.Decides.{nat_tests}
use Rattle.grammar.specs.declared.Refusal.{Refusal}
use Rattle.grammar.specs.declared.Refusal.TheVariants.{NotAToken}
use Rattle.grammar.specs.declared.Sign.TheVariants.{Plus, Minus}
use Rattle.grammar.specs.declared.Relation.TheVariants.{Equal, NotEqual, Less, LessOrEqual, Greater, GreaterOrEqual}
use Rattle.grammar.specs.declared.Field.TheVariants.{Op, Arg, C1, C2, C3, C4, C5, C6}
use Rattle.grammar.specs.declared.Tag.{Tag}
use Rattle.grammar.specs.Symbol.{Symbol, LeftSquare, RightSquare, LeftRound, RightRound, Bar, Dot, Star, Underscore, Quote, Arrow, And, Or, Not, Has, True, Additive, Relational, Number, FieldName, tag}
use Rattle.grammar.specs.Spelling.{space, word_part, Word, Digits, Spells, valued, greatest}
use Rattle.grammar.specs.Marks.{mark_of_bytes, mark_of_byte}
use Rattle.grammar.specs.Cutting.{Longest, Placed, placed, Cut, cut_end, cut_space, cut_token, Uncut, uncut_byte, uncut_lexeme, uncut_space, uncut_later}
use Rattle.grammar.proofs.Lexemes.{word_longest, number_longest, word_is, digits_is, two_longest, one_longest, none_begins, true_T}
use Rattle.rule.specs.Scanning.{is_space, tagged, sized, or_else, Piece, word, number, mark, Scanned, over, refused, cut, marked, front, past, scanned}
use Rattle.rule.specs.Tagging.{Spelled, Tagged, or_zero}
use Rattle.rule.specs.Spots.{spot, symbol as symbol_with, symbol_at}

-- the bytes bs, after n others, are cut into the tokens ts and then as the bytes cs after m others are; and where the cutting of
-- those stops, it stops
pub record Leads (n : ℕ) (bs : List ℕ) (m : ℕ) (cs : List ℕ) (ts : List Placed) : Type 0 where
  pub goes : (us : List Placed) → Cut m cs us → Cut n bs (ts ++ us)
  pub fails : (p : ℕ) → Uncut m cs p → Uncut n bs p

pub stays : {n : ℕ} {bs : List ℕ} → Leads n bs n bs []
stays = record { goes = λ us c. c; fails = λ p u. u }

pub on : {n m k : ℕ} {bs cs ds : List ℕ} {ts us : List Placed} → Leads n bs m cs ts → Leads m cs k ds us → Leads n bs k ds (ts ++ us)
on {us = us} a b = record {
  goes = λ vs c. rw append_assoc (a.goes (us ++ vs) (b.goes vs c));
  fails = λ p u. a.fails p (b.fails p u);
}

after_space : {n m : ℕ} {bs cs : List ℕ} → Leads (n + 1) bs m cs [] → Leads n (space ∷ bs) m cs []
after_space l = record { goes = λ us c. cut_space (l.goes us c); fails = λ p u. uncut_space (l.fails p u) }

one_token : {n : ℕ} {w rest : List ℕ} {s : Symbol} → Longest w rest → Spells s w → Leads n (w ++ rest) (n + length w) rest (placed s n ∷ [])
one_token {s = s} l e = record { goes = λ us c. cut_token l e c; fails = λ p u. uncut_later s l e u }

-- k spaces stand first, and then none
abbrev Spaced : ℕ → List ℕ → ℕ → Type 0
Spaced n bs k = Leads n bs (n + k) (drop k bs) [] × (prefix_len is_space (drop k bs) ≡ 0)

spaces : (n : ℕ) (bs : List ℕ) → Spaced n bs (prefix_len is_space bs)
spaces n [] = (rw add-zero stays, refl)
spaces n (b ∷ bs) =
    let later = spaces (n + 1) bs in
    cond_both (eqb b space) _ _ (Spaced n (b ∷ bs))
    (λ h. rw (eqb-true b space h, ← add_assoc, one-add) (after_space later.0, later.1))
    (λ h. rw add-zero (stays, cond-false (eqb b space) _ _ h))

-- a symbol with the bytes w is a number within the limit, or its tag tells all of it and w is not digits
data Kind (w : List ℕ) : Symbol → Type 0 where
  numeral : Digits w → valued 0 w ≤ greatest → Kind w (Number (valued 0 w))
  other : {s : Symbol} → ((n : ℕ) → symbol_with (tag s) n ≡ s) → (Digits w → ⊥) → Kind w s

kind : (s : Symbol) (w : List ℕ) → Spells s w → Kind w s
kind LeftSquare w e = other (λ n. refl) (λ d. (subst Digits e d).0)
kind RightSquare w e = other (λ n. refl) (λ d. (subst Digits e d).0)
kind LeftRound w e = other (λ n. refl) (λ d. (subst Digits e d).0)
kind RightRound w e = other (λ n. refl) (λ d. (subst Digits e d).0)
kind Bar w e = other (λ n. refl) (λ d. (subst Digits e d).0)
kind Dot w e = other (λ n. refl) (λ d. (subst Digits e d).0)
kind Star w e = other (λ n. refl) (λ d. (subst Digits e d).0)
kind Underscore w e = other (λ n. refl) (λ d. (subst Digits e d).0)
kind Quote w e = other (λ n. refl) (λ d. (subst Digits e d).0)
kind Arrow w e = other (λ n. refl) (λ d. (subst Digits e d).0)
kind And w e = other (λ n. refl) (λ d. (subst Digits e d).0)
kind Or w e = other (λ n. refl) (λ d. (subst Digits e d).0)
kind Not w e = other (λ n. refl) (λ d. (subst Digits e d).0)
kind Has w e = other (λ n. refl) (λ d. (subst Digits e d).0)
kind True w e = other (λ n. refl) (λ d. (subst Digits e d).0)
kind (Additive Plus) w e = other (λ n. refl) (λ d. (subst Digits e d).0)
kind (Additive Minus) w e = other (λ n. refl) (λ d. (subst Digits e d).0)
kind (Relational Equal) w e = other (λ n. refl) (λ d. (subst Digits e d).0)
kind (Relational NotEqual) w e = other (λ n. refl) (λ d. (subst Digits e d).0)
kind (Relational Less) w e = other (λ n. refl) (λ d. (subst Digits e d).0)
kind (Relational LessOrEqual) w e = other (λ n. refl) (λ d. (subst Digits e d).0)
kind (Relational Greater) w e = other (λ n. refl) (λ d. (subst Digits e d).0)
kind (Relational GreaterOrEqual) w e = other (λ n. refl) (λ d. (subst Digits e d).0)
kind (Number n) w e = subst (Kind w) (ap Number e.1) (numeral e.0 (omega arith))
kind (FieldName Op) w e = other (λ n. refl) (λ d. (subst Digits e d).0)
kind (FieldName Arg) w e = other (λ n. refl) (λ d. (subst Digits e d).0)
kind (FieldName C1) w e = other (λ n. refl) (λ d. (subst Digits e d).0)
kind (FieldName C2) w e = other (λ n. refl) (λ d. (subst Digits e d).0)
kind (FieldName C3) w e = other (λ n. refl) (λ d. (subst Digits e d).0)
kind (FieldName C4) w e = other (λ n. refl) (λ d. (subst Digits e d).0)
kind (FieldName C5) w e = other (λ n. refl) (λ d. (subst Digits e d).0)
kind (FieldName C6) w e = other (λ n. refl) (λ d. (subst Digits e d).0)

limited : {s : Symbol} {w : List ℕ} → Kind w s → Digits w → valued 0 w ≤ greatest
limited (numeral d le) h = le
limited (other f apart) h = absurd (apart h)

same_symbol : {s : Symbol} {w : List ℕ} (m : ℕ) → Kind w s → (Digits w → valued 0 w ≡ m) → symbol_with (tag s) m ≡ s
same_symbol m (numeral d le) h = ap Number (sym (h d))
same_symbol m (other f apart) h = f m

letter_apart : (b : ℕ) → is_ascii_alphabetic b ≡ true → is_ascii_digit b ≡ false
letter_apart b h = grind (arith, nat_tests)

undigit : {A : Type 0} (b : ℕ) (bs : List ℕ) → is_ascii_digit b ≡ false → Digits (b ∷ bs) → A
undigit b bs f d = let t : is_ascii_digit b ≡ true = true_T (is_ascii_digit b) d.0 in let z : ◌≡◌ {A = ℕ} 0 1 = cc in absurd (omega arith)

word_apart : {A : Type 0} (w : List ℕ) → Word w → Digits w → A
word_apart [] h d = absurd h
word_apart (b ∷ w) h d = undigit b w (letter_apart b (true_T (is_ascii_alphabetic b) h.0)) d

-- the bytes w spell the symbol that the tag k and the number m stand for
abbrev Stands : List ℕ → ℕ → Tag → Type 0
Stands w m k = (s : Spelled w k) × (symbol_with k m ≡ s.symbol)

known : {w : List ℕ} {k : Tag} (m : ℕ) (s : Spelled w k) → (Digits w → valued 0 w ≡ m) → Stands w m k
known {w} m s h = (s, ap (λ j. symbol_with j m) s.tags ∙ same_symbol m (kind s.symbol w s.spells) h)

-- what the tag of a token, or its refusal, says of its bytes w; n others stand before them, and m is the number that they are, if
-- they are one
abbrev Says : List ℕ → ℕ → ℕ → Result Tag Refusal → Type 0
Says w m n (Ok k) = Stands w m k
Says w m n (Err e) = (e ≡ NotAToken n) × ((s : Symbol) → Spells s w → ⊥)

word_says : (w : List ℕ) (m n : ℕ) (r : Result Tag Refusal) → Word w → Tagged (word w) n r → Says w m n r
word_says w m n (Ok k) h t = known m t (word_apart w h)
word_says w m n (Err e) h t = (t.0, λ s p. t.1 s p h)

number_says : (w : List ℕ) (n : ℕ) (r : Result Tag Refusal) → Digits w → Tagged (number w) n r → Says w (or_zero (valued 0 w)) n r
number_says w n (Ok k) h t =
    known (or_zero (valued 0 w)) (record { symbol = Number (valued 0 w); spells = (h, refl, t.1); tags = t.0 })
    (λ d. sym (cond-true _ (valued 0 w) 0 (le-leb (valued 0 w) greatest t.1)))
number_says w n (Err e) h t = (t.0, λ s p. omega (arith, limited (kind s w p) h, t.1))

mark_says : (s : Symbol) (b : ℕ) (bs : List ℕ) (m n : ℕ) (r : Result Tag Refusal) → is_ascii_digit b ≡ false → Spells s (b ∷ bs) → Tagged (mark (tag s)) n r → Says (b ∷ bs) m n r
mark_says s b bs m n (Ok k) f h t = known m (record { symbol = s; spells = h; tags = t }) (undigit b bs f)
mark_says s b bs m n (Err e) f h t = absurd t

-- the number at the front of bytes
abbrev first_number : List ℕ → ℕ
first_number bs = or_zero (valued 0 (take (prefix_len is_ascii_digit bs) bs))

-- what stands at the front of the bytes bs, after n others
data Front (n : ℕ) (bs : List ℕ) : Scanned → Type 0 where
  at_end : Cut n bs [] → Front n bs over
  at_none : Uncut n bs n → Front n bs (refused (NotAToken n))
  at_lexeme : (p : Piece) (k : ℕ) → k ≤ length bs → Longest (take k bs) (drop k bs) → ((r : Result Tag Refusal) → Tagged p n r → Says (take k bs) (first_number bs) n r) → Front n bs (cut p n (n + k))

no_second : (b : ℕ) (s : Symbol) → mark_of_bytes b 0 ≡ Some s → ⊥
no_second b s e = grind (arith, nat_tests)

two_front : (n b : ℕ) (bs : List ℕ) (s : Symbol) → is_ascii_digit b ≡ false → mark_of_bytes b (get_or bs 0 0) ≡ Some s → Front n (b ∷ bs) (cut (mark (tag s)) n (n + 2))
two_front n b [] s d e = absurd (no_second b s e)
two_front n b (c ∷ bs) s d e =
    let is = two_longest b c bs s e in
    at_lexeme (mark (tag s)) 2 (omega arith) is.0 (λ r. mark_says s b (c ∷ []) _ n r d is.1)

front_view : (n : ℕ) (bs : List ℕ) → prefix_len is_space bs ≡ 0 → Front n bs (front n bs)
front_view n [] z = at_end cut_end
front_view n (b ∷ bs) z =
    cond_both (is_ascii_alphabetic b) _ _ (Front n (b ∷ bs))
    (λ l. at_lexeme _ (prefix_len word_part (b ∷ bs)) (prefix_len-le-length word_part (b ∷ bs)) (word_longest b bs l) (λ r. word_says _ _ n r (word_is b bs l)))
    (λ l. cond_both (is_ascii_digit b) _ _ (Front n (b ∷ bs))
    (λ d. at_lexeme _ (prefix_len is_ascii_digit (b ∷ bs)) (prefix_len-le-length is_ascii_digit (b ∷ bs)) (number_longest b bs d) (λ r. number_says _ n r (digits_is b bs d)))
    (λ d. by_marks l d (mark_of_bytes b (get_or bs 0 0)) (mark_of_byte b) refl refl))
  where
    no_space : b ≡ space → ⊥
    no_space h = omega (arith, ap (λ a. prefix_len is_space (a ∷ bs)) h)

    by_marks : is_ascii_alphabetic b ≡ false → is_ascii_digit b ≡ false → (o q : Option Symbol) → mark_of_bytes b (get_or bs 0 0) ≡ o → mark_of_byte b ≡ q → Front n (b ∷ bs) (marked n (or_else (sized 2 (tagged o)) (sized 1 (tagged q))))
    by_marks l d (Some s) q e f = two_front n b bs s d e
    by_marks l d None (Some s) e f =
        let is = one_longest b bs s e f in
        at_lexeme (mark (tag s)) 1 (omega arith) is.0 (λ r. mark_says s b [] _ n r d is.1)
    by_marks l d None None e f = at_none (uncut_byte no_space (none_begins b bs l d e f))

-- the cutting from a place on stops
abbrev pub Fails : List ℕ → ℕ → Refusal → Type 0
Fails text at e = (p : ℕ) × (e ≡ NotAToken p) × Uncut at (drop at text) p

-- after spaces there is a token with the tag k, and the cutting goes on after it
pub record Next (text : List ℕ) (at place to : ℕ) (k : Tag) : Type 0 where
  pub symbol : Symbol
  pub is : symbol_at text (spot k place) ≡ symbol
  pub leads : Leads at (drop at text) to (drop to text) (placed symbol place ∷ [])

abbrev After : List ℕ → ℕ → ℕ → ℕ → Result Tag Refusal → Type 0
After text at place to (Ok k) = Next text at place to k
After text at place to (Err e) = Fails text at e

-- what follows for the cutting from what the cutter finds
abbrev pub Found : List ℕ → ℕ → Scanned → Type 0
Found text at over = Cut at (drop at text) []
Found text at (refused e) = Fails text at e
Found text at (cut p place to) = (r : Result Tag Refusal) → Tagged p place r → After text at place to r

module _ (text : List ℕ) (at : ℕ) where
  abbrev place : ℕ
  place = past text at

  abbrev ahead : List ℕ
  ahead = drop place text

  begins : Leads at (drop at text) place ahead [] × (prefix_len is_space ahead ≡ 0)
  begins =
      subst (λ l. Leads at (drop at text) place l [] × (prefix_len is_space l ≡ 0))
      (drop-drop (prefix_len is_space (drop at text)) at text)
      (spaces at (drop at text))

  after : (k : ℕ) → k ≤ length ahead → Longest (take k ahead) (drop k ahead) → (r : Result Tag Refusal) → Says (take k ahead) (first_number ahead) place r → After text at place (place + k) r
  after k le l (Ok t) s = record {
    symbol = s.0.symbol;
    is = s.1;
    leads =
        on begins.0
        (subst₃ (λ x y z. Leads place x (place + y) z (placed s.0.symbol place ∷ [])) (take-append-drop k ahead) (length-take-le k ahead le) (drop-drop k place text) (one_token l s.0.spells));
  }
  after k le l (Err e) s = (place, s.0, begins.0.fails place (subst (λ x. Uncut place x place) (take-append-drop k ahead) (uncut_lexeme l s.1)))

  by_front : (x : Scanned) → Front place ahead x → Found text at x
  by_front over (at_end c) = begins.0.goes [] c
  by_front (refused e) (at_none u) = (place, refl, begins.0.fails place u)
  by_front (cut p from to) (at_lexeme q k le l says) = λ r t. after k le l r (says r t)

  pub found : Found text at (scanned text at)
  found = by_front (scanned text at) (front_view place ahead begins.1)
