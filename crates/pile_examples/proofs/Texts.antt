-- Texts cut by hand, token by token.
use Rattle.std.proofs.Common.{◌≡◌, ℕ, zero, suc, ◌+◌, ◌≤◌, Bool, true, ◌&&◌, eqb, leb, List, [], ◌∷◌, length, get_or, take, drop, Some, None, codes, refl, subst, arith}
use Rattle.std.specs.Char.{is_ascii_digit, is_ascii_alphabetic}
use Rattle.std.specs.List.{prefix_len}
use Rattle.std.proofs.lemmas.List.{take-append-drop}
use Rattle.std.proofs.lemmas.Bool.{and_parts, leb-true, eqb-true}
use Rattle.grammar.specs.declared.Field.TheVariants.{Op, C1, C4, C6}
use Rattle.grammar.specs.declared.Name.{Name}
use Rattle.grammar.specs.declared.Name.TheVariants.{Plain, Newest}
use Rattle.grammar.specs.declared.Relation.{Relation}
use Rattle.grammar.specs.declared.Relation.TheVariants.{Equal, Less}
use Rattle.grammar.specs.declared.Sign.TheVariants.{Plus}
use Rattle.grammar.specs.declared.Term.TheVariants.{Constant, Named}
use Rattle.grammar.specs.Symbol.{Symbol, LeftSquare, RightSquare, Bar, Dot, Star, Underscore, Quote, Not, True, Relational, Number, FieldName}
use Rattle.grammar.specs.Tree.{Pattern, Claim, empty, claim, alternative, sequence, star, truth, negation, comparison, first}
use Rattle.grammar.specs.Spelling.{word_part, valued, greatest, Spells}
use Rattle.grammar.specs.Marks.{mark_of_bytes, mark_of_byte}
use Rattle.grammar.specs.Cutting.{Longest, Placed, placed, symbols, Cut, cut_end, cut_space, cut_token}
use Rattle.grammar.specs.Limits.{text_limit, token_limit, claim_limit, count, opening, claiming, Shallow}
use Rattle.grammar.specs.Machine.{run, start, good}
use Rattle.grammar.specs.Reading.{Within}
use Rattle.grammar.proofs.Lexemes.{word_longest, number_longest, digits_is, one_longest}
use Rattle.grammar.proofs.Sound.{run_rule}
use Rattle.examples.specs.Examples.{ReadAs}

count_front : (f : Symbol → ℕ) (k : ℕ) (ts : List Symbol) → count f (take k ts) ≤ count f ts
count_front f zero ts = omega arith
count_front f (suc k) [] = omega arith
count_front f (suc k) (t ∷ ts) = omega (arith, count_front f k ts)

-- with no `(` none is too deep
no_round : (ts : List Symbol) → count opening ts ≡ 0 → Shallow ts
no_round ts e k d = omega (arith, d.over, count_front opening (k + 1) ts)

-- the limits as one test, for texts with no `(`
abbrev small : List ℕ → List Placed → Bool
small text ts =
    (leb (length text) text_limit && leb (length ts) token_limit)
    && (eqb (count opening (symbols ts)) 0 && leb (count claiming (symbols ts)) claim_limit)

within : (text : List ℕ) (ts : List Placed) → Cut 0 text ts → small text ts ≡ true → Within text ts
within text ts c e =
    let halves = and_parts (leb (length text) text_limit && leb (length ts) token_limit) (eqb (count opening (symbols ts)) 0 && leb (count claiming (symbols ts)) claim_limit) e in
    let sizes = and_parts (leb (length text) text_limit) (leb (length ts) token_limit) halves.0 in
    let kinds = and_parts (eqb (count opening (symbols ts)) 0) (leb (count claiming (symbols ts)) claim_limit) halves.1 in
    record {
      short = leb-true _ _ sizes.0;
      cut = c;
      few = leb-true _ _ sizes.1;
      shallow = no_round (symbols ts) (eqb-true _ _ kinds.0);
      uncrowded = leb-true _ _ kinds.1;
    }

-- tokens that a text is cut into and that run to a tree
read : (text : List ℕ) (ts : List Placed) (x : Pattern) → Cut 0 text ts → small text ts ≡ true → run start (symbols ts) ≡ good x → ReadAs x text
read text ts x c e d n w = (ts, record { numbered = w; within = within text ts c e; derived = run_rule (symbols ts) x d })

-- one token more at the front of bytes: a mark of one byte, a word, a number
mark : {n b : ℕ} {bs : List ℕ} {s : Symbol} {ts : List Placed} → mark_of_bytes b (get_or bs 0 0) ≡ None → mark_of_byte b ≡ Some s → Cut (n + 1) bs ts → Cut n (b ∷ bs) (placed s n ∷ ts)
mark {b = b} {bs = bs} {s = s} e f c = let is = one_longest b bs s e f in cut_token is.0 is.1 c

-- the bytes at the front that pass a test, and those after them
abbrev front : (ℕ → Bool) → List ℕ → List ℕ
front p bs = take (prefix_len p bs) bs

abbrev beyond : (ℕ → Bool) → List ℕ → List ℕ
beyond p bs = drop (prefix_len p bs) bs

token : {n : ℕ} {s : Symbol} {ts : List Placed} (p : ℕ → Bool) (bs : List ℕ) → Longest (front p bs) (beyond p bs) → Spells s (front p bs)
    → Cut (n + length (front p bs)) (beyond p bs) ts → Cut n bs (placed s n ∷ ts)
token {n} {s} {ts} p bs l e c = subst (λ cs. Cut n cs (placed s n ∷ ts)) (take-append-drop (prefix_len p bs) bs) (cut_token l e c)

word : {n b : ℕ} {bs : List ℕ} {s : Symbol} {ts : List Placed} → is_ascii_alphabetic b ≡ true → Spells s (front word_part (b ∷ bs))
    → Cut (n + length (front word_part (b ∷ bs))) (beyond word_part (b ∷ bs)) ts → Cut n (b ∷ bs) (placed s n ∷ ts)
word {b = b} {bs = bs} h e c = token word_part (b ∷ bs) (word_longest b bs h) e c

number : {n b v : ℕ} {bs : List ℕ} {ts : List Placed} → is_ascii_digit b ≡ true → valued 0 (front is_ascii_digit (b ∷ bs)) ≡ v → leb v greatest ≡ true
    → Cut (n + length (front is_ascii_digit (b ∷ bs))) (beyond is_ascii_digit (b ∷ bs)) ts → Cut n (b ∷ bs) (placed (Number v) n ∷ ts)
number {b = b} {bs = bs} h e f c = token is_ascii_digit (b ∷ bs) (number_longest b bs h) (digits_is b bs h, e, leb-true _ _ f) c

-- `_`
pub reads_empty : ReadAs empty (codes "_")
reads_empty = read (codes "_") (placed Underscore 0 ∷ []) empty (mark refl refl cut_end) refl refl

-- a comparison of a name with a number
abbrev compares : Relation → Name → ℕ → Claim
compares r x n = comparison r (first Plus (Named x)) (first Plus (Constant n))

-- `[not c6 = 1]`
abbrev pub unequal : Claim
unequal = negation (compares Equal (Plain C6) 1)

unequal_tokens : List Placed
unequal_tokens = placed LeftSquare 0 ∷ placed Not 1 ∷ placed (FieldName C6) 5 ∷ placed (Relational Equal) 8 ∷ placed (Number 1) 10 ∷ placed RightSquare 11 ∷ []

unequal_cut : Cut 0 (codes "[not c6 = 1]") unequal_tokens
unfolding unequal_tokens
unequal_cut =
    mark refl refl (word refl refl (cut_space (word refl refl (cut_space (mark refl refl (cut_space (number refl refl refl (mark refl refl cut_end))))))))

pub reads_unequal : ReadAs (claim unequal) (codes "[not c6 = 1]")
unfolding unequal_tokens
reads_unequal = read (codes "[not c6 = 1]") unequal_tokens (claim unequal) unequal_cut refl refl

-- `[c4 < 3]`
abbrev pub early : Claim
early = compares Less (Plain C4) 3

early_tokens : List Placed
early_tokens = placed LeftSquare 0 ∷ placed (FieldName C4) 1 ∷ placed (Relational Less) 4 ∷ placed (Number 3) 6 ∷ placed RightSquare 7 ∷ []

early_cut : Cut 0 (codes "[c4 < 3]") early_tokens
unfolding early_tokens
early_cut = mark refl refl (word refl refl (cut_space (mark refl refl (cut_space (number refl refl refl (mark refl refl cut_end))))))

pub reads_early : ReadAs (claim early) (codes "[c4 < 3]")
unfolding early_tokens
reads_early = read (codes "[c4 < 3]") early_tokens (claim early) early_cut refl refl

-- `[op = 0] | [true].[c1 < c1']*.[op = 0]`
abbrev at_first : Pattern
at_first = claim (compares Equal (Plain Op) 0)

abbrev earlier : Pattern
earlier = claim (comparison Less (first Plus (Named (Plain C1))) (first Plus (Named (Newest C1))))

abbrev pub onward : Pattern
onward = alternative at_first (sequence (sequence (claim truth) (star earlier)) at_first)

onward_tokens : List Placed
onward_tokens =
    placed LeftSquare 0 ∷ placed (FieldName Op) 1 ∷ placed (Relational Equal) 4 ∷ placed (Number 0) 6 ∷ placed RightSquare 7
    ∷ placed Bar 9
    ∷ placed LeftSquare 11 ∷ placed True 12 ∷ placed RightSquare 16
    ∷ placed Dot 17
    ∷ placed LeftSquare 18 ∷ placed (FieldName C1) 19 ∷ placed (Relational Less) 22 ∷ placed (FieldName C1) 24 ∷ placed Quote 26 ∷ placed RightSquare 27 ∷ placed Star 28
    ∷ placed Dot 29
    ∷ placed LeftSquare 30 ∷ placed (FieldName Op) 31 ∷ placed (Relational Equal) 34 ∷ placed (Number 0) 36 ∷ placed RightSquare 37 ∷ []

onward_cut : Cut 0 (codes "[op = 0] | [true].[c1 < c1']*.[op = 0]") onward_tokens
unfolding onward_tokens
onward_cut =
    mark refl refl (word refl refl (cut_space (mark refl refl (cut_space (number refl refl refl (mark refl refl
    (cut_space (mark refl refl
    (cut_space (mark refl refl (word refl refl (mark refl refl
    (mark refl refl
    (mark refl refl (word refl refl (cut_space (mark refl refl (cut_space (word refl refl (mark refl refl (mark refl refl (mark refl refl
    (mark refl refl
    (mark refl refl (word refl refl (cut_space (mark refl refl (cut_space (number refl refl refl (mark refl refl cut_end))))))))))))))))))))))))))))))

pub reads_onward : ReadAs onward (codes "[op = 0] | [true].[c1 < c1']*.[op = 0]")
unfolding onward_tokens
reads_onward = read (codes "[op = 0] | [true].[c1 < c1']*.[op = 0]") onward_tokens onward onward_cut refl refl
