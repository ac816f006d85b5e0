-- Which rule texts are read, and why the others are refused.
use Rattle.std.specs.Prelude.{ℕ, ◌<◌, ◌≤◌, List, length, ℤ, pos, ◌≤ℤ◌}
use Rattle.grammar.specs.declared.Refusal.{Refusal}
use Rattle.grammar.specs.declared.Refusal.TheVariants.{WatchNumber, TextTooLong, NotAToken, TooManyTokens, TooDeep, TooManyClaims, Unexpected}
use Rattle.grammar.specs.Tree.{Pattern}
use Rattle.grammar.specs.Patterns.{Rule}
use Rattle.grammar.specs.Viable.{FirstBad}
use Rattle.grammar.specs.Cutting.{Placed, symbols, place_at, Cut, Uncut}
use Rattle.grammar.specs.Limits.{text_limit, token_limit, claim_limit, claiming, count, FirstDeep, Shallow, Crowding}

-- a number that a watch may have
pub record Numbered (n : ℤ) : Type 0 where
  pub least : pos 1 ≤ℤ n
  pub most : n ≤ℤ pos 65535

-- the text keeps every limit, and ts are its tokens
pub record Within (text : List ℕ) (ts : List Placed) : Type 0 where
  pub short : length text ≤ text_limit
  pub cut : Cut 0 text ts
  pub few : length ts ≤ token_limit
  pub shallow : Shallow (symbols ts)
  pub uncrowded : count claiming (symbols ts) ≤ claim_limit

-- grammar and limits allow the text under the watch number n: ts are its tokens, and x is a tree that the grammar gives them
pub record Allowed (n : ℤ) (text : List ℕ) (ts : List Placed) (x : Pattern) : Type 0 where
  pub numbered : Numbered n
  pub within : Within text ts
  pub derived : Rule (symbols ts) x

-- each refusal, with none of those before it
pub data Refused (n : ℤ) (text : List ℕ) : Refusal → Type 0 where
  misnumbered : (Numbered n → ⊥) → Refused n text WatchNumber
  too_long : Numbered n → text_limit < length text → Refused n text TextTooLong
  no_token : {p : ℕ} → Numbered n → length text ≤ text_limit → Uncut 0 text p → Refused n text (NotAToken p)
  too_many : {ts : List Placed} → Numbered n → length text ≤ text_limit → Cut 0 text ts
      → token_limit < length ts → Refused n text (TooManyTokens (place_at text ts token_limit))
  too_deep : {ts : List Placed} {k : ℕ} → Numbered n → length text ≤ text_limit → Cut 0 text ts → length ts ≤ token_limit
      → FirstDeep (symbols ts) k → Refused n text (TooDeep (place_at text ts k))
  too_crowded : {ts : List Placed} {k : ℕ} → Numbered n → length text ≤ text_limit → Cut 0 text ts → length ts ≤ token_limit → Shallow (symbols ts)
      → Crowding (symbols ts) k → Refused n text (TooManyClaims (place_at text ts k))
  unexpected : {ts : List Placed} {k : ℕ} → Numbered n → Within text ts
      → FirstBad (symbols ts) k → Refused n text (Unexpected (place_at text ts k))
