-- Cutting is a function: bytes have one list of tokens, or one place where what stands is none.
use Rattle.std.proofs.Common.{◌≡◌, ℕ, ◌+◌, Bool, true, false, cond, ◌&&◌, eqb, List, [], ◌∷◌, ◌++◌, length, take, drop, Some, None, codes, Option, sym, refl, ap, ◌∙◌, subst, arith}
use Rattle.std.specs.Char.{is_ascii_digit}
use Rattle.std.proofs.lemmas.List.{take_at, drop_at}
use Rattle.std.proofs.lemmas.Bool.{cond-true}
use Rattle.grammar.specs.Symbol.{Plus, Minus, Equal, NotEqual, Less, LessOrEqual, Greater, GreaterOrEqual, Op, Arg, C1, C2, C3, C4, C5, C6, Symbol, LeftSquare, RightSquare, LeftRound, RightRound, Bar, Dot, Star, Underscore, Quote, Arrow, And, Or, Not, Has, True, Additive, Relational, Number, FieldName}
use Rattle.grammar.specs.Spelling.{space, Digits, valued, Spells}
use Rattle.grammar.specs.Cutting.{Longest, Placed, placed, Cut, cut_end, cut_space, cut_token, Uncut, uncut_byte, uncut_lexeme, uncut_space, uncut_later}
use Rattle.grammar.proofs.Lexemes.{true_T, lexeme_begins, lexeme_some}

-- every symbol but the numbers, with its bytes
abbrev pub spellings : List (List ℕ × Symbol)
spellings =
    (codes "[", LeftSquare) ∷ (codes "]", RightSquare) ∷ (codes "(", LeftRound) ∷ (codes ")", RightRound)
    ∷ (codes "|", Bar) ∷ (codes ".", Dot) ∷ (codes "*", Star) ∷ (codes "_", Underscore) ∷ (codes "'", Quote) ∷ (codes "=>", Arrow)
    ∷ (codes "and", And) ∷ (codes "or", Or) ∷ (codes "not", Not) ∷ (codes "has", Has) ∷ (codes "true", True)
    ∷ (codes "+", Additive Plus) ∷ (codes "-", Additive Minus)
    ∷ (codes "=", Relational Equal) ∷ (codes "<>", Relational NotEqual) ∷ (codes "<", Relational Less)
    ∷ (codes "<=", Relational LessOrEqual) ∷ (codes ">", Relational Greater) ∷ (codes ">=", Relational GreaterOrEqual)
    ∷ (codes "op", FieldName Op) ∷ (codes "arg", FieldName Arg)
    ∷ (codes "c1", FieldName C1) ∷ (codes "c2", FieldName C2) ∷ (codes "c3", FieldName C3)
    ∷ (codes "c4", FieldName C4) ∷ (codes "c5", FieldName C5) ∷ (codes "c6", FieldName C6) ∷ []

abbrev same : List ℕ → List ℕ → Bool
same [] [] = true
same [] (b ∷ v) = false
same (a ∷ w) [] = false
same (a ∷ w) (b ∷ v) = eqb a b && same w v

abbrev pub looked_up : List (List ℕ × Symbol) → List ℕ → Option Symbol
looked_up [] w = None
looked_up (e ∷ es) w = cond (same e.0 w) (Some e.1) (looked_up es w)

-- which symbol bytes spell, as a function: so they spell one only
abbrev pub spelled : List ℕ → Option Symbol
spelled [] = None
spelled (b ∷ bs) = cond (is_ascii_digit b) (Some (Number (valued 0 (b ∷ bs)))) (looked_up spellings (b ∷ bs))

number_spelled : (w : List ℕ) → Digits w → spelled w ≡ Some (Number (valued 0 w))
number_spelled [] d = absurd d
number_spelled (b ∷ bs) d = cond-true (is_ascii_digit b) _ _ (true_T (is_ascii_digit b) d.0)

pub spells_spelled : (s : Symbol) (w : List ℕ) → Spells s w → spelled w ≡ Some s
spells_spelled LeftSquare w e = ap spelled e
spells_spelled RightSquare w e = ap spelled e
spells_spelled LeftRound w e = ap spelled e
spells_spelled RightRound w e = ap spelled e
spells_spelled Bar w e = ap spelled e
spells_spelled Dot w e = ap spelled e
spells_spelled Star w e = ap spelled e
spells_spelled Underscore w e = ap spelled e
spells_spelled Quote w e = ap spelled e
spells_spelled Arrow w e = ap spelled e
spells_spelled And w e = ap spelled e
spells_spelled Or w e = ap spelled e
spells_spelled Not w e = ap spelled e
spells_spelled Has w e = ap spelled e
spells_spelled True w e = ap spelled e
spells_spelled (Additive Plus) w e = ap spelled e
spells_spelled (Additive Minus) w e = ap spelled e
spells_spelled (Relational Equal) w e = ap spelled e
spells_spelled (Relational NotEqual) w e = ap spelled e
spells_spelled (Relational Less) w e = ap spelled e
spells_spelled (Relational LessOrEqual) w e = ap spelled e
spells_spelled (Relational Greater) w e = ap spelled e
spells_spelled (Relational GreaterOrEqual) w e = ap spelled e
spells_spelled (Number n) w e = number_spelled w e.0 ∙ ap (λ (k : ℕ). Some (Number k)) e.1
spells_spelled (FieldName Op) w e = ap spelled e
spells_spelled (FieldName Arg) w e = ap spelled e
spells_spelled (FieldName C1) w e = ap spelled e
spells_spelled (FieldName C2) w e = ap spelled e
spells_spelled (FieldName C3) w e = ap spelled e
spells_spelled (FieldName C4) w e = ap spelled e
spells_spelled (FieldName C5) w e = ap spelled e
spells_spelled (FieldName C6) w e = ap spelled e

pub spells_one : (w : List ℕ) (s t : Symbol) → Spells s w → Spells t w → s ≡ t
spells_one w s t p q = cc (spells_spelled s w p, spells_spelled t w q)

-- of two longest fronts of the same bytes neither is longer, so they are one
pub longest_one : {w rest v back : List ℕ} → Longest w rest → Longest v back → w ++ rest ≡ v ++ back → (w ≡ v) × (rest ≡ back)
longest_one {w} {rest} {v} {back} l m e =
    let n : length w ≡ length v = omega (arith, l.longest v back m.lexeme e, m.longest w rest l.lexeme (sym e)) in (
      sym (take_at w rest (length v) n) ∙ ap (take (length v)) e ∙ take_at v back (length v) refl,
      sym (drop_at w rest (length v) n) ∙ ap (drop (length v)) e ∙ drop_at v back (length v) refl,
    )

-- what cutting comes to: all the tokens, or the place where none stands
data Outcome : Type 0 where
  whole : List Placed → Outcome
  broken : ℕ → Outcome

abbrev after : Placed → Outcome → Outcome
after t (whole ts) = whole (t ∷ ts)
after t (broken p) = broken p

-- bytes at whose front stands neither a space nor a token
record Bad (bs : List ℕ) : Type 0 where
  not_empty : [] ≡ bs → ⊥
  no_space : (cs : List ℕ) → space ∷ cs ≡ bs → ⊥
  no_token : (s : Symbol) (w rest : List ℕ) → Longest w rest → Spells s w → w ++ rest ≡ bs → ⊥

-- cut and uncut bytes in one relation, so that one induction shows that they have one outcome
data Comes : ℕ → List ℕ → Outcome → Type 0 where
  at_end : {n : ℕ} → Comes n [] (whole [])
  at_space : {n : ℕ} {bs : List ℕ} {o : Outcome} → Comes (n + 1) bs o → Comes n (space ∷ bs) o
  at_token : {n : ℕ} {w rest : List ℕ} {o : Outcome} (s : Symbol) → Longest w rest → Spells s w → Comes (n + length w) rest o → Comes n (w ++ rest) (after (placed s n) o)
  at_bad : {n : ℕ} {bs : List ℕ} → Bad bs → Comes n bs (broken n)

nil_cons : {b : ℕ} {bs : List ℕ} → [] ≡ b ∷ bs → ⊥
nil_cons e = let z : ◌≡◌ {A = ℕ} 0 1 = cc in omega arith

cut_comes : {n : ℕ} {bs : List ℕ} {ts : List Placed} → Cut n bs ts → Comes n bs (whole ts)
cut_comes cut_end = at_end
cut_comes (cut_space d) = at_space (cut_comes d)
cut_comes (cut_token {s = s} l p d) = at_token s l p (cut_comes d)

uncut_comes : {n p : ℕ} {bs : List ℕ} → Uncut n bs p → Comes n bs (broken p)
uncut_comes (uncut_byte b none) = at_bad (record {
  not_empty = nil_cons;
  no_space = λ cs e. b (cc);
  no_token = λ s w rest l p e. none w rest l.lexeme (sym e);
})
uncut_comes (uncut_lexeme {w = v} {rest = back} m none) = at_bad (record {
  not_empty = lexeme_some v back m.lexeme;
  no_space = λ cs e. lexeme_begins v back m.lexeme space cs e refl;
  no_token = λ s w rest l p e. none s (subst (Spells s) (longest_one l m e).0 p);
})
uncut_comes (uncut_space d) = at_space (uncut_comes d)
uncut_comes (uncut_later s l p d) = at_token s l p (uncut_comes d)

comes_one : {m n : ℕ} {bs cs : List ℕ} {o p : Outcome} → Comes m bs o → Comes n cs p → m ≡ n → bs ≡ cs → o ≡ p
comes_one at_end at_end k e = refl
comes_one at_end (at_space d) k e = absurd (nil_cons e)
comes_one at_end (at_token {w = w} {rest = rest} s l q d) k e = absurd (lexeme_some w rest l.lexeme e)
comes_one at_end (at_bad b) k e = absurd (b.not_empty e)
comes_one (at_space c) at_end k e = absurd (nil_cons (sym e))
comes_one (at_space c) (at_space d) k e = comes_one c d (ap (λ (n : ℕ). n + 1) k) (cc)
comes_one (at_space {bs = bs} c) (at_token {w = w} {rest = rest} s l q d) k e = absurd (lexeme_begins w rest l.lexeme space bs e refl)
comes_one (at_space {bs = bs} c) (at_bad b) k e = absurd (b.no_space bs e)
comes_one (at_token {w = w} {rest = rest} s l q c) at_end k e = absurd (lexeme_some w rest l.lexeme (sym e))
comes_one (at_token {w = w} {rest = rest} s l q c) (at_space {bs = bs} d) k e = absurd (lexeme_begins w rest l.lexeme space bs (sym e) refl)
comes_one (at_token {w = w} s l q c) (at_token {w = v} t m r d) k e =
    let same = longest_one l m e in
    let is : s ≡ t = spells_one v s t (subst (Spells s) same.0 q) r in
    let on = comes_one c d (λ i. k i + length (same.0 i)) same.1 in
    λ i. after (placed (is i) (k i)) (on i)
comes_one (at_token {w = w} {rest = rest} s l q c) (at_bad b) k e = absurd (b.no_token s w rest l q e)
comes_one (at_bad b) at_end k e = absurd (b.not_empty (sym e))
comes_one (at_bad b) (at_space {bs = bs} d) k e = absurd (b.no_space bs (sym e))
comes_one (at_bad b) (at_token {w = w} {rest = rest} s l q d) k e = absurd (b.no_token s w rest l q (sym e))
comes_one (at_bad b) (at_bad c) k e = ap broken k

pub cut_one : {n : ℕ} {bs : List ℕ} {ts us : List Placed} → Cut n bs ts → Cut n bs us → ts ≡ us
cut_one {ts = ts} {us = us} d e = let h : whole ts ≡ whole us = comes_one (cut_comes d) (cut_comes e) refl refl in cc

pub cut_or_uncut : {n p : ℕ} {bs : List ℕ} {ts : List Placed} → Cut n bs ts → Uncut n bs p → ⊥
cut_or_uncut {p = p} {ts = ts} d e =
    let h : whole ts ≡ broken p = comes_one (cut_comes d) (uncut_comes e) refl refl in
    let z : ◌≡◌ {A = ℕ} 0 1 = cc in omega arith

pub uncut_one : {n p q : ℕ} {bs : List ℕ} → Uncut n bs p → Uncut n bs q → p ≡ q
uncut_one {p = p} {q = q} d e = let h : broken p ≡ broken q = comes_one (uncut_comes d) (uncut_comes e) refl refl in cc
