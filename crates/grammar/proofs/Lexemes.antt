-- What stands at the front of a text: a word, a run of digits, a mark, or no lexeme.
use Rattle.std.proofs.Common.{◌≡◌, ℕ, suc, ◌<◌, ◌≤◌, Bool, true, false, cond, ◌&&◌, T, eqb, List, [], ◌∷◌, ◌++◌, length, get_or, take, drop, Some, None, Option, sym, refl, ap, ◌∙◌, subst, subst₂, one-add, arith}
use Rattle.std.specs.Char.{is_ascii_alphabetic, is_ascii_digit}
use Rattle.std.specs.List.{prefix_len}
use Rattle.std.proofs.lemmas.List.{take-append-drop, length-take-le}
use Rattle.std.proofs.lemmas.List.Sums.{prefix_len-le-length}
use Rattle.std.proofs.lemmas.Bool.{and_parts, cond-true, cond-false, eqb-true}
use Rattle.std.proofs.lemmas.Bool.Decides.{nat_tests}
use Rattle.grammar.specs.Symbol.{Plus, Minus, Equal, NotEqual, Less, LessOrEqual, Greater, GreaterOrEqual, Symbol, LeftSquare, RightSquare, LeftRound, RightRound, Bar, Dot, Star, Underscore, Quote, Arrow, And, Or, Not, Has, True, Additive, Relational, Number, FieldName}
use Rattle.grammar.specs.Spelling.{space, word_part, All, Word, Digits, Spells, mark}
use Rattle.grammar.specs.Marks.{mark_of_bytes, mark_of_byte}
use Rattle.grammar.specs.Cutting.{Lexeme, a_word, a_number, a_mark, Longest}

-- how long a mark is, by what the first two bytes are and what the first is
abbrev mark_length : Option Symbol → Option Symbol → ℕ
mark_length (Some s) o = 2
mark_length None (Some s) = 1
mark_length None None = 0

-- how far the longest lexeme at the front of a text reaches, 0 if none stands there: lengths are then compared with this number
-- alone, and not lexeme with lexeme
abbrev reach : List ℕ → ℕ
reach [] = 0
reach (b ∷ bs) =
    cond (is_ascii_alphabetic b) (prefix_len word_part (b ∷ bs))
    (cond (is_ascii_digit b) (prefix_len is_ascii_digit (b ∷ bs)) (mark_length (mark_of_bytes b (get_or bs 0 0)) (mark_of_byte b)))

T_true : {b : Bool} → b ≡ true → T b
T_true {b = true} e = tt
T_true {b = false} e = let z : ◌≡◌ {A = ℕ} 0 1 = cc in absurd (omega arith)

pub true_T : (b : Bool) → T b → b ≡ true
true_T true t = refl
true_T false t = absurd t

letter_word_part : (b : ℕ) → is_ascii_alphabetic b ≡ true → word_part b ≡ true
letter_word_part b h = grind (arith, nat_tests)

digit_apart : (b : ℕ) → is_ascii_digit b ≡ true → is_ascii_alphabetic b ≡ false
digit_apart b h = grind (arith, nat_tests)

reach_word : (b : ℕ) (bs : List ℕ) → is_ascii_alphabetic b ≡ true → reach (b ∷ bs) ≡ prefix_len word_part (b ∷ bs)
reach_word b bs h = cond-true (is_ascii_alphabetic b) _ _ h

reach_number : (b : ℕ) (bs : List ℕ) → is_ascii_digit b ≡ true → reach (b ∷ bs) ≡ prefix_len is_ascii_digit (b ∷ bs)
reach_number b bs h = cond-false (is_ascii_alphabetic b) _ _ (digit_apart b h) ∙ cond-true (is_ascii_digit b) _ _ h

reach_mark : (b : ℕ) (bs : List ℕ) → is_ascii_alphabetic b ≡ false → is_ascii_digit b ≡ false → reach (b ∷ bs) ≡ mark_length (mark_of_bytes b (get_or bs 0 0)) (mark_of_byte b)
reach_mark b bs l d = cond-false (is_ascii_alphabetic b) _ _ l ∙ cond-false (is_ascii_digit b) _ _ d

-- bytes that all pass a test, and the bytes that lead a text and pass it
module _ (p : ℕ → Bool) where
  leading_yes : (b : ℕ) (bs : List ℕ) → p b ≡ true → prefix_len p (b ∷ bs) ≡ suc (prefix_len p bs)
  leading_yes b bs h = cond-true (p b) _ _ h ∙ one-add (prefix_len p bs)

  all_within : (v back : List ℕ) → All p v → length v ≤ prefix_len p (v ++ back)
  all_within [] back a = omega arith
  all_within (b ∷ v) back a = omega (arith, leading_yes b (v ++ back) (true_T (p b) a.0), all_within v back a.1)

  front_cons : (b : ℕ) (bs : List ℕ) → p b ≡ true → take (prefix_len p (b ∷ bs)) (b ∷ bs) ≡ b ∷ take (prefix_len p bs) bs
  front_cons b bs h = ap (λ n. take n (b ∷ bs)) (leading_yes b bs h)

  all_leading : (bs : List ℕ) → All p (take (prefix_len p bs) bs)
  all_leading [] = tt
  all_leading (b ∷ bs) = by_test (p b) refl (all_leading bs)
    where
      by_test : (t : Bool) → p b ≡ t → All p (take (prefix_len p bs) bs) → All p (take (prefix_len p (b ∷ bs)) (b ∷ bs))
      by_test true h a = subst (All p) (sym (front_cons b bs h)) (T_true h, a)
      by_test false h a = subst (All p) (sym (ap (λ n. take n (b ∷ bs)) (cond-false (p b) _ _ h))) tt

pub word_is : (b : ℕ) (bs : List ℕ) → is_ascii_alphabetic b ≡ true → Word (take (prefix_len word_part (b ∷ bs)) (b ∷ bs))
word_is b bs h = subst Word (sym (front_cons word_part b bs (letter_word_part b h))) (T_true h, all_leading word_part bs)

pub digits_is : (b : ℕ) (bs : List ℕ) → is_ascii_digit b ≡ true → Digits (take (prefix_len is_ascii_digit (b ∷ bs)) (b ∷ bs))
digits_is b bs h = subst Digits (sym (front_cons is_ascii_digit b bs h)) (T_true h, all_leading is_ascii_digit bs)

-- a lexeme is not empty, and not longer than the reach of a text that it begins
abbrev Reached : List ℕ → List ℕ → Type 0
Reached back v = (0 < length v) × (length v ≤ reach (v ++ back))

word_reached : (v back : List ℕ) → Word v → Reached back v
word_reached [] back w = absurd w
word_reached (b ∷ v) back w =
    let h = true_T (is_ascii_alphabetic b) w.0 in
    (omega arith, omega (arith, reach_word b (v ++ back) h, all_within word_part (b ∷ v) back (T_true (letter_word_part b h), w.1)))

number_reached : (v back : List ℕ) → Digits v → Reached back v
number_reached [] back w = absurd w
number_reached (b ∷ v) back w =
    let h = true_T (is_ascii_digit b) w.0 in
    (omega arith, omega (arith, reach_number b (v ++ back) h, all_within is_ascii_digit (b ∷ v) back w))

one_reached : (a : ℕ) (s : Symbol) {v : List ℕ} (back : List ℕ) → reach (a ∷ back) ≡ mark_length (mark_of_bytes a (get_or back 0 0)) (Some s) → v ≡ a ∷ [] → Reached back v
one_reached a s back r e = subst (Reached back) (sym e) (omega arith, omega (arith, least (mark_of_bytes a (get_or back 0 0))))
  where
    least : (o : Option Symbol) → 1 ≤ mark_length o (Some s)
    least (Some t) = omega arith
    least None = omega arith

two_reached : (a b : ℕ) {v : List ℕ} (back : List ℕ) → reach (a ∷ b ∷ back) ≡ 2 → v ≡ a ∷ b ∷ [] → Reached back v
two_reached a b back r e = subst (Reached back) (sym e) (omega arith, omega arith)

mark_reached : (s : Symbol) (v back : List ℕ) → T (mark s) → Spells s v → Reached back v
mark_reached LeftSquare v back m e = one_reached 91 LeftSquare back refl e
mark_reached RightSquare v back m e = one_reached 93 RightSquare back refl e
mark_reached LeftRound v back m e = one_reached 40 LeftRound back refl e
mark_reached RightRound v back m e = one_reached 41 RightRound back refl e
mark_reached Bar v back m e = one_reached 124 Bar back refl e
mark_reached Dot v back m e = one_reached 46 Dot back refl e
mark_reached Star v back m e = one_reached 42 Star back refl e
mark_reached Underscore v back m e = one_reached 95 Underscore back refl e
mark_reached Quote v back m e = one_reached 39 Quote back refl e
mark_reached Arrow v back m e = two_reached 61 62 back refl e
mark_reached And v back m e = absurd m
mark_reached Or v back m e = absurd m
mark_reached Not v back m e = absurd m
mark_reached Has v back m e = absurd m
mark_reached True v back m e = absurd m
mark_reached (Additive Plus) v back m e = one_reached 43 (Additive Plus) back refl e
mark_reached (Additive Minus) v back m e = one_reached 45 (Additive Minus) back refl e
mark_reached (Relational Equal) v back m e = one_reached 61 (Relational Equal) back refl e
mark_reached (Relational NotEqual) v back m e = two_reached 60 62 back refl e
mark_reached (Relational Less) v back m e = one_reached 60 (Relational Less) back refl e
mark_reached (Relational LessOrEqual) v back m e = two_reached 60 61 back refl e
mark_reached (Relational Greater) v back m e = one_reached 62 (Relational Greater) back refl e
mark_reached (Relational GreaterOrEqual) v back m e = two_reached 62 61 back refl e
mark_reached (Number n) v back m e = absurd m
mark_reached (FieldName f) v back m e = absurd m

lexeme_reached : (v back : List ℕ) → Lexeme v → Reached back v
lexeme_reached v back (a_word w) = word_reached v back w
lexeme_reached v back (a_number w) = number_reached v back w
lexeme_reached v back (a_mark s m e) = mark_reached s v back m e

-- so a lexeme of that length is the longest
reaches : (w rest : List ℕ) → Lexeme w → length w ≡ reach (w ++ rest) → Longest w rest
reaches w rest l n = record { lexeme = l; longest = λ v back m e. omega (arith, lexeme_reached v back m, ap reach e) }

front_longest : (n b : ℕ) (bs : List ℕ) → n ≤ length (b ∷ bs) → reach (b ∷ bs) ≡ n → Lexeme (take n (b ∷ bs)) → Longest (take n (b ∷ bs)) (drop n (b ∷ bs))
front_longest n b bs le r l = reaches (take n (b ∷ bs)) (drop n (b ∷ bs)) l (length-take-le n (b ∷ bs) le ∙ sym r ∙ ap reach (sym (take-append-drop n (b ∷ bs))))

pub word_longest : (b : ℕ) (bs : List ℕ) → is_ascii_alphabetic b ≡ true → Longest (take (prefix_len word_part (b ∷ bs)) (b ∷ bs)) (drop (prefix_len word_part (b ∷ bs)) (b ∷ bs))
word_longest b bs h = front_longest (prefix_len word_part (b ∷ bs)) b bs (prefix_len-le-length word_part (b ∷ bs)) (reach_word b bs h) (a_word (word_is b bs h))

pub number_longest : (b : ℕ) (bs : List ℕ) → is_ascii_digit b ≡ true → Longest (take (prefix_len is_ascii_digit (b ∷ bs)) (b ∷ bs)) (drop (prefix_len is_ascii_digit (b ∷ bs)) (b ∷ bs))
number_longest b bs h = front_longest (prefix_len is_ascii_digit (b ∷ bs)) b bs (prefix_len-le-length is_ascii_digit (b ∷ bs)) (reach_number b bs h) (a_number (digits_is b bs h))

-- these bytes are the mark s, and neither a word nor a number begins with them
record Marks (s : Symbol) (a : ℕ) (bs : List ℕ) : Type 0 where
  is_mark : T (mark s)
  spells : Spells s (a ∷ bs)
  no_letter : is_ascii_alphabetic a ≡ false
  no_digit : is_ascii_digit a ≡ false

none_some : {s : Symbol} {A : Type 0} → None ≡ Some s → A
none_some e = let z : ◌≡◌ {A = ℕ} 0 1 = cc in absurd (omega arith)

-- one test of a chain that finds a mark: what follows if it is passed, and if it is not
test : {a : ℕ} {bs : List ℕ} {t s : Symbol} {o : Option Symbol} (c : Bool) → (c ≡ true → Marks t a bs) → (o ≡ Some s → Marks s a bs) → cond c (Some t) o ≡ Some s → Marks s a bs
test {a} {bs} {t} {s} true here on e = let p : t ≡ s = cc in subst (λ (u : Symbol). Marks u a bs) p (here refl)
test false here on e = on e

one_test : (a k : ℕ) (t s : Symbol) (o : Option Symbol) → Marks t k [] → (o ≡ Some s → Marks s a []) → cond (eqb a k) (Some t) o ≡ Some s → Marks s a []
one_test a k t s o here = test (eqb a k) (λ h. subst (λ (n : ℕ). Marks t n []) (sym (eqb-true a k h)) here)

two_test : (a b j k : ℕ) (t s : Symbol) (o : Option Symbol) → Marks t j (k ∷ []) → (o ≡ Some s → Marks s a (b ∷ [])) → cond (eqb a j && eqb b k) (Some t) o ≡ Some s → Marks s a (b ∷ [])
two_test a b j k t s o here =
    test (eqb a j && eqb b k)
    (λ h. let both = and_parts (eqb a j) (eqb b k) h in subst₂ (λ (m n : ℕ). Marks t m (n ∷ [])) (sym (eqb-true a j both.0)) (sym (eqb-true b k both.1)) here)

abbrev known : {s : Symbol} {a : ℕ} {bs : List ℕ} → T (mark s) → Spells s (a ∷ bs) → is_ascii_alphabetic a ≡ false → is_ascii_digit a ≡ false → Marks s a bs
known m e l d = record { is_mark = m; spells = e; no_letter = l; no_digit = d }

one_marks : (a : ℕ) (s : Symbol) → mark_of_byte a ≡ Some s → Marks s a []
one_marks a s =
    one_test a 91 LeftSquare s _ (known tt refl refl refl)
    (one_test a 93 RightSquare s _ (known tt refl refl refl)
    (one_test a 40 LeftRound s _ (known tt refl refl refl)
    (one_test a 41 RightRound s _ (known tt refl refl refl)
    (one_test a 124 Bar s _ (known tt refl refl refl)
    (one_test a 46 Dot s _ (known tt refl refl refl)
    (one_test a 42 Star s _ (known tt refl refl refl)
    (one_test a 95 Underscore s _ (known tt refl refl refl)
    (one_test a 39 Quote s _ (known tt refl refl refl)
    (one_test a 43 (Additive Plus) s _ (known tt refl refl refl)
    (one_test a 45 (Additive Minus) s _ (known tt refl refl refl)
    (one_test a 61 (Relational Equal) s _ (known tt refl refl refl)
    (one_test a 60 (Relational Less) s _ (known tt refl refl refl)
    (one_test a 62 (Relational Greater) s _ (known tt refl refl refl) none_some)))))))))))))

two_marks : (a b : ℕ) (s : Symbol) → mark_of_bytes a b ≡ Some s → Marks s a (b ∷ [])
two_marks a b s =
    two_test a b 60 62 (Relational NotEqual) s _ (known tt refl refl refl)
    (two_test a b 60 61 (Relational LessOrEqual) s _ (known tt refl refl refl)
    (two_test a b 62 61 (Relational GreaterOrEqual) s _ (known tt refl refl refl)
    (two_test a b 61 62 Arrow s _ (known tt refl refl refl) none_some)))

mark_longest : {s : Symbol} {a : ℕ} {bs : List ℕ} (rest : List ℕ) → Marks s a bs → length (a ∷ bs) ≡ mark_length (mark_of_bytes a (get_or (bs ++ rest) 0 0)) (mark_of_byte a) → Longest (a ∷ bs) rest × Spells s (a ∷ bs)
mark_longest {s} {a} {bs} rest m n =
    (reaches (a ∷ bs) rest (a_mark s m.is_mark m.spells) (n ∙ sym (reach_mark a (bs ++ rest) m.no_letter m.no_digit)), m.spells)

pub two_longest : (a b : ℕ) (rest : List ℕ) (s : Symbol) → mark_of_bytes a b ≡ Some s → Longest (a ∷ b ∷ []) rest × Spells s (a ∷ b ∷ [])
two_longest a b rest s e = mark_longest rest (two_marks a b s e) (ap (λ (o : Option Symbol). mark_length o (mark_of_byte a)) (sym e))

pub one_longest : (a : ℕ) (rest : List ℕ) (s : Symbol) → mark_of_bytes a (get_or rest 0 0) ≡ None → mark_of_byte a ≡ Some s → Longest (a ∷ []) rest × Spells s (a ∷ [])
one_longest a rest s e f = mark_longest rest (one_marks a s f) (λ i. mark_length (sym e i) (sym f i))

-- where the reach is 0, no lexeme begins
unreached : (bs : List ℕ) → reach bs ≡ 0 → (v back : List ℕ) → Lexeme v → bs ≡ v ++ back → ⊥
unreached bs r v back l e = omega (arith, lexeme_reached v back l, ap reach e)

pub none_begins : (a : ℕ) (rest : List ℕ) → is_ascii_alphabetic a ≡ false → is_ascii_digit a ≡ false → mark_of_bytes a (get_or rest 0 0) ≡ None → mark_of_byte a ≡ None → (v back : List ℕ) → Lexeme v → a ∷ rest ≡ v ++ back → ⊥
none_begins a rest l d e f = unreached (a ∷ rest) (reach_mark a rest l d ∙ (λ i. mark_length (e i) (f i)))

pub lexeme_begins : (v back : List ℕ) → Lexeme v → (b : ℕ) (bs : List ℕ) → b ∷ bs ≡ v ++ back → b ≡ space → ⊥
lexeme_begins v back l b bs e s = unreached (b ∷ bs) (ap (λ (n : ℕ). reach (n ∷ bs)) s) v back l e

pub lexeme_some : (v back : List ℕ) → Lexeme v → [] ≡ v ++ back → ⊥
lexeme_some = unreached [] refl
