-- The walk over the rows, newest first, turn by turn.
use Rattle.std.proofs.Common.{◌≡◌, ℕ, ◌-◌, ◌<◌, ◌≤◌, Bool, true, false, ◌||◌, T, List, [], ◌∷◌, ◌++◌, reverse, length, get_or, sym, ap, ◌∙◌, subst, arith}
use mathlib.Core.Path.{fun_ext}
use Rattle.std.proofs.lemmas.List.{reverse-append, get_or-reverse, length-reverse, nil_from_length}
use Rattle.engine.specs.declared.Row.{Row}
use Rattle.grammar.specs.Tree.{Claim, Pattern}
use Rattle.rule.specs.declared.rule.Rule.{Rule}
use Rattle.rule.specs.declared.summary.Summary.{Summary}
use Rattle.rule.specs.Summaries.{after}
use Rattle.rule.specs.Held.{rule_tree, root_of, summary_of}
use Rattle.matching.specs.Fits.{Passes}
use Rattle.matching.specs.Walk.{null, left, unmarked, shift, goes, passes, passes_sound, passes_complete, passes_goes, goes_unmarked, Told, told_one}
use Rattle.matching.specs.Marks.{bit, meets}
use Rattle.matching.specs.Passing.{tested, PassesRule, tried, tried_told, Answered, pattern_at}
use Rattle.matching.proofs.Bitwise.{bit_none}
use Rattle.matching.proofs.Summed.{nullable_is, last_is}

no_marks : bit 0 ≡ unmarked
no_marks = fun_ext bit_none

-- what the walk answers on rows, newest first
abbrev pub outcome : Pattern → List Row → Bool
outcome p [] = null p
outcome p (newest ∷ older) = passes (tested newest) p (newest ∷ older)

module _ (p : Pattern) where
  decided : (test : Claim → Row → Bool) (b : Bool) (rows : List Row) → passes test p rows ≡ b → Told b (Passes test p rows)
  decided test b rows e = (λ t. passes_sound test p rows (subst T (sym e) t), λ c. subst T e (passes_complete test p rows c))

  outcome_told : (b : Bool) (rows : List Row) → outcome p rows ≡ b → Told b (PassesRule p rows)
  outcome_told b [] e = decided (λ c r. false) b [] e
  outcome_told b (newest ∷ older) e = decided (tested newest) b (newest ∷ older) e

  answered : (rows : List Row) (b : Bool) → outcome p rows ≡ b → Answered p rows b
  answered rows b e =
      let t = outcome_told b rows e in
      record { told = t; as_tried = told_one (PassesRule p rows) b (tried p rows) t (tried_told p rows) }

  nothing_read : (rows : List Row) → null p ≡ true → outcome p rows ≡ true
  nothing_read [] e = e
  nothing_read (newest ∷ older) e = passes_goes (tested newest) p (newest ∷ older) ∙ ap (λ b. b || goes (tested newest) p true unmarked (newest ∷ older)) e

  something_read : (newest : Row) (older : List Row) → null p ≡ false → outcome p (newest ∷ older) ≡ goes (tested newest) p true (bit 0) (newest ∷ older)
  something_read newest older e =
      passes_goes (tested newest) p (newest ∷ older)
      ∙ ap (λ b. b || goes (tested newest) p true unmarked (newest ∷ older)) e
      ∙ ap (λ f. goes (tested newest) p true f (newest ∷ older)) (sym no_marks)

-- the last row is the first of the reversed ones
first_is : (x : Row) (rows : List Row) → 0 < length rows → get_or rows 0 x ≡ x → (older : List Row) × (rows ≡ x ∷ older)
first_is x [] h e = absurd (omega arith)
first_is x (y ∷ ys) h e = (ys, ap (λ z. z ∷ ys) e)

newest_first : (rows : List Row) (x : Row) → 0 < length rows → x ≡ get_or rows (length rows - 1) x → (older : List Row) × (reverse rows ≡ x ∷ older)
newest_first rows x h e =
    let i : length rows - 1 - 0 ≡ length rows - 1 = omega arith in
    first_is x (reverse rows) (omega (arith, length-reverse rows)) (get_or-reverse rows 0 x h ∙ ap (λ i. get_or rows i x) i ∙ sym e)

-- what is left to walk: the first rows, the last of them first
pub record Left (u : Rule) (rows : List Row) (newest : Row) (e : Bool) (m : ℕ) (rest : List Row) : Type 0 where
  pub walk : outcome (rule_tree u) (reverse rows) ≡ goes (tested newest) (rule_tree u) e (bit m) (reverse rest)

-- the same once a row was walked over and left the marks r: some of them stand at the end, or the walk goes on
pub record Turned (u : Rule) (rows : List Row) (newest : Row) (s : Summary) (r : ℕ) (others : List Row) : Type 0 where
  pub walk : outcome (rule_tree u) (reverse rows) ≡ (meets r (after 0 s.last) || goes (tested newest) (rule_tree u) false (bit r) (reverse others))

module _ (u : Rule) (rows : List Row) (n : ℕ) (root : n ≡ root_of u) (s : Summary) (whole : s ≡ summary_of u n) where
  abbrev tree : Pattern
  tree = rule_tree u

  is_nullable : s.nullable ≡ null tree
  is_nullable = ap (λ x. x.nullable) (whole ∙ ap (summary_of u) root) ∙ nullable_is tree

  pub at_once : s.nullable ≡ true → Answered tree (reverse rows) true
  at_once e = answered tree (reverse rows) true (nothing_read tree (reverse rows) (sym is_nullable ∙ e))

  pub no_rows : s.nullable ≡ false → length rows ≤ 0 → Answered tree (reverse rows) false
  no_rows e z = answered tree (reverse rows) false (ap (outcome tree) (ap reverse (nil_from_length rows (omega arith))) ∙ sym is_nullable ∙ e)

  module _ (newest : Row) where
    pub begins : s.nullable ≡ false → 0 < length rows → newest ≡ get_or rows (length rows - 1) newest → (rest : List Row) → rest ≡ rows → Left u rows newest true 0 rest
    begins e h k rest l =
        let f = newest_first rows newest h k in
        record {
          walk = subst (λ xs. outcome tree (reverse rows) ≡ goes (tested newest) tree true (bit 0) (reverse xs)) (sym l)
              (subst (λ xs. outcome tree xs ≡ goes (tested newest) tree true (bit 0) xs) (sym f.1) (something_read tree newest f.0 (sym is_nullable ∙ e)));
        }

    pub turn : (row : Row) (e : Bool) (m r : ℕ) (rest others : List Row) → Left u rows newest e m rest → rest ≡ others ++ row ∷ []
        → ((k : ℕ) → bit r k ≡ shift (tested newest) row (bit m) e 0 (pattern_at u n) k) → Turned u rows newest s r others
    turn row e m r rest others inv here moved =
        let last : left (bit r) 0 tree ≡ meets r (after 0 s.last) =
        sym (last_is tree r 0 (omega (arith, u.limited, u.counted))) ∙ ap (λ x. meets r (after 0 x.last)) (sym (whole ∙ ap (summary_of u) root)) in
        record {
          walk = inv.walk ∙ ap (λ xs. goes (tested newest) tree e (bit m) xs) (ap reverse here ∙ reverse-append others (row ∷ []))
              ∙ ap (λ f. left f 0 tree || goes (tested newest) tree false f (reverse others)) (sym (fun_ext (λ k. moved k ∙ ap (λ i. shift (tested newest) row (bit m) e 0 (pattern_at u i) k) root)))
              ∙ ap (λ b. b || goes (tested newest) tree false (bit r) (reverse others)) last;
        }

module _ {u : Rule} {rows : List Row} {newest : Row} where
  pub run_out : {e : Bool} {m : ℕ} {rest : List Row} → Left u rows newest e m rest → length rest ≡ 0 → Answered (rule_tree u) (reverse rows) false
  run_out {e} {m} {rest} inv z = answered (rule_tree u) (reverse rows) false (inv.walk ∙ ap (λ xs. goes (tested newest) (rule_tree u) e (bit m) (reverse xs)) (nil_from_length rest z))

  module _ {s : Summary} {r : ℕ} {others : List Row} (t : Turned u rows newest s r others) where
    pub ends : true ≡ meets r (after 0 s.last) → Answered (rule_tree u) (reverse rows) true
    ends e = answered (rule_tree u) (reverse rows) true (t.walk ∙ ap (λ b. b || goes (tested newest) (rule_tree u) false (bit r) (reverse others)) (sym e))

    pub goes_on : false ≡ meets r (after 0 s.last) → Left u rows newest false r others
    goes_on e = record { walk = t.walk ∙ ap (λ b. b || goes (tested newest) (rule_tree u) false (bit r) (reverse others)) (sym e) }

    pub is_lost : false ≡ meets r (after 0 s.last) → r ≡ 0 → Answered (rule_tree u) (reverse rows) false
    is_lost e z =
        answered (rule_tree u) (reverse rows) false
        ((goes_on e).walk ∙ ap (λ f. goes (tested newest) (rule_tree u) false f (reverse others)) (ap bit z ∙ no_marks) ∙ goes_unmarked (tested newest) (rule_tree u) (reverse others))
