-- The canonical text of trees, in full brackets.
use Rattle.std.specs.Prelude.{ℕ, List, [], ◌++◌, codes}
use Rattle.grammar.specs.declared.Sign.{Sign}
use Rattle.grammar.specs.declared.Sign.TheVariants.{Plus, Minus}
use Rattle.grammar.specs.Texts.{sign_text, relation_text, name_text, term_text}
use Rattle.grammar.specs.Tree.{Sum, first, more, Claim, implication, disjunction, conjunction, negation, truth, presence, comparison, Pattern, empty, claim, alternative, sequence, star}

-- a text with a space on each side
abbrev pub spaced : List ℕ → List ℕ
spaced x = codes " " ++ (x ++ codes " ")

-- a sign before the first term of a sum
abbrev pub leading_text : Sign → List ℕ
leading_text Plus = []
leading_text Minus = sign_text Minus

abbrev pub sum_text : Sum → List ℕ
sum_text (first d t) = leading_text d ++ term_text t
sum_text (more s d t) = sum_text s ++ (spaced (sign_text d) ++ term_text t)

-- two texts in round brackets, with a mark between them
abbrev pub two : List ℕ → List ℕ → List ℕ → List ℕ
two x mark y = codes "(" ++ (x ++ (mark ++ (y ++ codes ")")))

abbrev pub claim_text : Claim → List ℕ
claim_text (implication x y) = two (claim_text x) (codes " => ") (claim_text y)
claim_text (disjunction x y) = two (claim_text x) (codes " or ") (claim_text y)
claim_text (conjunction x y) = two (claim_text x) (codes " and ") (claim_text y)
claim_text (negation x) = codes "not " ++ claim_text x
claim_text truth = codes "true"
claim_text (presence l) = codes "has " ++ name_text l
claim_text (comparison r x y) = sum_text x ++ (spaced (relation_text r) ++ sum_text y)

abbrev pub pattern_text : Pattern → List ℕ
pattern_text empty = codes "_"
pattern_text (claim c) = codes "[" ++ (claim_text c ++ codes "]")
pattern_text (alternative x y) = two (pattern_text x) (codes " | ") (pattern_text y)
pattern_text (sequence x y) = two (pattern_text x) (codes " . ") (pattern_text y)
pattern_text (star x) = pattern_text x ++ codes "*"
