-- Lines taken off the input.
use Rattle.std.proofs.Common.{◌≡◌, ℕ, ◌≤◌, Bool, true, false, cond, List, [], ◌∷◌, length, drop, Some, None, Option, ◌==◌, Bor, MatchOption, sym, ap, ◌∙◌, arith}
use Rattle.std.proofs.lemmas.List.{drop-drop}
use Rattle.std.specs.Option.{unwrap_or}
use Rattle.fields.specs.Lines.{longer, lines_of}
use Rattle.transcript.specs.Transcript.{first_of, first_rule, second_rule, order_lines}

-- there are no more lines than bytes
pub lines_few : (bytes : List ℕ) → length (lines_of bytes) ≤ length bytes
lines_few [] = omega arith
lines_few (byte ∷ bytes) = by (byte == 10) (lines_of bytes) (lines_few bytes) where
  by : (ends : Bool) (lines : List (List ℕ)) → length lines ≤ length bytes → length (cond ends ([] ∷ lines) (longer byte lines)) ≤ length (byte ∷ bytes)
  by true lines few = omega arith
  by false [] few = omega arith
  by false (line ∷ lines) few = omega arith

-- a line that is taken, empty if it is not there, and the lines after it
pub record Taken (lines : List (List ℕ)) (x : List ℕ) (xs : List (List ℕ)) : Type 0 where
  pub line : x ≡ first_of lines
  pub rest : xs ≡ drop 1 lines

pub taken : {lines rest : List (List ℕ)} (r : Option (Bor (List ℕ))) {line : Bor (List ℕ)} (none : Bor (List ℕ)) → MatchOption r ((lines ≡ []) × (rest ≡ [])) (λ x. lines ≡ x.now ∷ rest) → line ≡ unwrap_or r none → none.now ≡ [] → Taken lines line.now rest
taken None none h e empty = record { line = ap (λ x. x.now) e ∙ empty ∙ sym (ap first_of h.0); rest = h.1 ∙ sym (ap (drop 1) h.0) }
taken (Some x) none h e empty = record { line = ap (λ x. x.now) e ∙ sym (ap first_of h); rest = sym (ap (drop 1) h) }

-- the lines of the two rules, taken one after the other, and the order lines
pub record Parted (input x y : List ℕ) (xs : List (List ℕ)) : Type 0 where
  pub first : x ≡ first_rule input
  pub second : y ≡ second_rule input
  pub rest : xs ≡ order_lines input

pub parted : (input : List ℕ) {x y : List ℕ} {lines later rest : List (List ℕ)} → lines ≡ lines_of input → Taken lines x later → Taken later y rest → Parted input x y rest
parted input start one two = record {
  first = one.line ∙ ap first_of start;
  second = two.line ∙ ap first_of (one.rest ∙ ap (drop 1) start);
  rest = two.rest ∙ ap (drop 1) (one.rest ∙ ap (drop 1) start) ∙ drop-drop 1 1 (lines_of input);
}
