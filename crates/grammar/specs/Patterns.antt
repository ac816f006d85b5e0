-- The grammar of rules: for each nonterminal, which lists of symbols it derives, and the tree of each.
use Rattle.std.specs.Prelude.{List, [], ◌∷◌, ◌++◌}
use Rattle.grammar.specs.Symbol.{Symbol, LeftSquare, RightSquare, LeftRound, RightRound, Bar, Dot, Star, Underscore}
use Rattle.grammar.specs.Tree.{Claim, Pattern, empty, claim, alternative, sequence, star}
use Rattle.grammar.specs.Claims.{IsClaim}

mutual
  -- RULE = CHAIN | RULE "|" CHAIN
  pub data Rule : List Symbol → Pattern → Type 0 where
    one_chain : {us : List Symbol} {x : Pattern} → Chain us x → Rule us x
    joined_chains : {us vs : List Symbol} {x y : Pattern} → Rule us x → Chain vs y → Rule (us ++ (Bar ∷ vs)) (alternative x y)

  -- CHAIN = PIECE | CHAIN "." PIECE
  pub data Chain : List Symbol → Pattern → Type 0 where
    one_piece : {us : List Symbol} {x : Pattern} → Piece us x → Chain us x
    joined_pieces : {us vs : List Symbol} {x y : Pattern} → Chain us x → Piece vs y → Chain (us ++ (Dot ∷ vs)) (sequence x y)

  -- PIECE = BASE | PIECE "*"
  pub data Piece : List Symbol → Pattern → Type 0 where
    bare : {us : List Symbol} {x : Pattern} → Base us x → Piece us x
    starred : {us : List Symbol} {x : Pattern} → Piece us x → Piece (us ++ (Star ∷ [])) (star x)

  -- BASE = "_" | "(" RULE ")" | "[" CLAIM "]"
  pub data Base : List Symbol → Pattern → Type 0 where
    blank : Base (Underscore ∷ []) empty
    round : {us : List Symbol} {x : Pattern} → Rule us x → Base (LeftRound ∷ (us ++ (RightRound ∷ []))) x
    square : {us : List Symbol} {c : Claim} → IsClaim us c → Base (LeftSquare ∷ (us ++ (RightSquare ∷ []))) (claim c)
