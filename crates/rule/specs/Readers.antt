-- What the methods of the reader do, from a token on: where the thing ends and its tree, or the first bad token. The facts are
-- equations between runs of the grammar's machine, for every context that the thing may stand in.
use Rattle.std.specs.Prelude.{◌≡◌, ℕ, zero, ◌+◌, ◌<◌, ◌≤◌, Bool, true, false, ◌⊎◌, List, [], ◌∷◌, ◌++◌, length, drop, Some, None, Option as Maybe, Ok, Err, Result, ◌≢◌}
use Rattle.std.proofs.Math.Option.{Option, none}
use Rattle.grammar.specs.declared.Refusal.{Refusal}
use Rattle.grammar.specs.declared.Refusal.TheVariants.{Unexpected}
use Rattle.grammar.specs.declared.Sign.{Sign}
use Rattle.grammar.specs.declared.Sign.TheVariants.{Plus, Minus}
use Rattle.grammar.specs.declared.Field.{Field}
use Rattle.grammar.specs.declared.Name.{Name}
use Rattle.grammar.specs.declared.Name.TheVariants.{Plain, Newest}
use Rattle.grammar.specs.declared.Term.{Term}
use Rattle.grammar.specs.Symbol.{Symbol, Bar, Dot, Star, Quote, Arrow, And, Or, Additive, FieldName}
use Rattle.grammar.specs.Tree.{Sum, terms, Claim, Pattern}
use Rattle.grammar.specs.Patterns.{Rule}
use Rattle.grammar.specs.Viable.{FirstBad}
use Rattle.grammar.specs.ClaimMachine.{ClaimFrame, claim_frame, fresh, with_if, with_sum, Side, left, single_wanted, single_had, sum_wanted, term_wanted, term_had, claim_run, claim_bad}
use Rattle.grammar.specs.Machine.{Frame, frame, want, have, run, bad}
use Rattle.rule.specs.declared.tokens.Tokens.{Tokens}
use Rattle.rule.specs.declared.tree.Tree.{Tree}
use Rattle.rule.specs.declared.reader.Reader.{Reader}
use Rattle.rule.specs.declared.node.Node.{Node}
use Rattle.grammar.specs.declared.Tag.{Tag}
use Rattle.rule.specs.Spots.{symbol}
use Rattle.rule.specs.Trees.{Thing, pattern}
use Rattle.rule.specs.Built.{nodes_of, Made}
use Rattle.rule.specs.Stored.{symbols_of, Caused}

-- the symbol s does not come next
abbrev pub Lacks : Symbol → List Symbol → Type 0
Lacks s [] = Unit {0}
Lacks s (t ∷ ts) = t ≡ s → ⊥

-- no symbol of a family comes next
abbrev pub LacksAll : {X : Type 0} → (X → Symbol) → List Symbol → Type 0
LacksAll f [] = Unit {0}
LacksAll {X} f (t ∷ ts) = (x : X) → t ≢ f x

-- the symbol s stands at p
pub record Next (ts : List Symbol) (p : ℕ) (s : Symbol) : Type 0 where
  pub within : p < length ts
  pub here : drop p ts ≡ s ∷ drop (p + 1) ts

-- one name
pub data NameEnds (ts : List Symbol) (at : ℕ) : ℕ → Name → Type 0 where
  plain_name : (w : Field) → at < length ts → drop at ts ≡ FieldName w ∷ drop (at + 1) ts → Lacks Quote (drop (at + 1) ts) → NameEnds ts at (at + 1) (Plain w)
  newest_name : (w : Field) → at + 1 < length ts → drop at ts ≡ FieldName w ∷ Quote ∷ drop (at + 2) ts → NameEnds ts at (at + 2) (Newest w)

pub record NameFails (ts : List Symbol) (at k : ℕ) : Type 0 where
  pub here : k ≡ at
  pub none : LacksAll FieldName (drop at ts)

-- wherever a term is wanted, the tokens from `at` on read as those from p on with this one had
pub record TermEnds (ts : List Symbol) (at p : ℕ) (x : Term) : Type 0 where
  pub on : at < p
  pub within : p ≤ length ts
  pub runs : (g : ClaimFrame) (H : List ClaimFrame) (h : Side) (a : Option Sum) (d : Sign) → claim_run (term_wanted g H h a d) (drop at ts) ≡ claim_run (term_had g H h (with_sum a d x)) (drop p ts)

pub record TermFails (ts : List Symbol) (at k : ℕ) : Type 0 where
  pub within : k ≤ length ts
  pub runs : (g : ClaimFrame) (H : List ClaimFrame) (h : Side) (a : Option Sum) (d : Sign) → claim_run (term_wanted g H h a d) (drop at ts) ≡ claim_bad (drop k ts)

-- the sign before a sum
pub data Leads (ts : List Symbol) (at : ℕ) : Sign → ℕ → Type 0 where
  is_minus : at < length ts → drop at ts ≡ Additive Minus ∷ drop (at + 1) ts → Leads ts at Minus (at + 1)
  is_bare : Lacks (Additive Minus) (drop at ts) → Leads ts at Plus at

pub record SumSoFar (ts : List Symbol) (at p : ℕ) (x : Sum) : Type 0 where
  pub on : at < p
  pub within : p ≤ length ts
  pub runs : (g : ClaimFrame) (H : List ClaimFrame) (h : Side) → claim_run (sum_wanted g H h) (drop at ts) ≡ claim_run (term_had g H h x) (drop p ts)

pub record SumOf (ts : List Symbol) (at n p : ℕ) (x : Sum) : Type 0 where
  pub so_far : SumSoFar ts at p x
  pub count : terms x ≡ n

pub record SumEnds (ts : List Symbol) (at p : ℕ) (x : Sum) : Type 0 where
  pub so_far : SumSoFar ts at p x
  pub over : LacksAll Additive (drop p ts) ⊎ (8 ≤ terms x)

pub record SumFails (ts : List Symbol) (at k : ℕ) : Type 0 where
  pub within : k ≤ length ts
  pub runs : (g : ClaimFrame) (H : List ClaimFrame) (h : Side) → claim_run (sum_wanted g H h) (drop at ts) ≡ claim_bad (drop k ts)

pub record ComparisonEnds (ts : List Symbol) (at p : ℕ) (x : Claim) : Type 0 where
  pub on : at < p
  pub within : p ≤ length ts
  pub runs : (g : ClaimFrame) (H : List ClaimFrame) → claim_run (sum_wanted g H left) (drop at ts) ≡ claim_run (single_had g H x) (drop p ts)

pub record ComparisonFails (ts : List Symbol) (at k : ℕ) : Type 0 where
  pub within : k ≤ length ts
  pub runs : (g : ClaimFrame) (H : List ClaimFrame) → claim_run (sum_wanted g H left) (drop at ts) ≡ claim_bad (drop k ts)

pub record SingleEnds (ts : List Symbol) (at p : ℕ) (x : Claim) : Type 0 where
  pub on : at < p
  pub within : p ≤ length ts
  pub runs : (g : ClaimFrame) (H : List ClaimFrame) → claim_run (single_wanted g H) (drop at ts) ≡ claim_run (single_had g H x) (drop p ts)

pub record SingleFails (ts : List Symbol) (at k : ℕ) : Type 0 where
  pub within : k ≤ length ts
  pub runs : (g : ClaimFrame) (H : List ClaimFrame) → claim_run (single_wanted g H) (drop at ts) ≡ claim_bad (drop k ts)

pub record BothSoFar (ts : List Symbol) (at p : ℕ) (x : Claim) : Type 0 where
  pub on : at < p
  pub within : p ≤ length ts
  pub runs : (i o : Option Claim) (H : List ClaimFrame) → claim_run (single_wanted (claim_frame i o none zero) H) (drop at ts) ≡ claim_run (single_had (claim_frame i o none zero) H x) (drop p ts)

pub record BothEnds (ts : List Symbol) (at p : ℕ) (x : Claim) : Type 0 where
  pub so_far : BothSoFar ts at p x
  pub over : Lacks And (drop p ts)

pub record BothFails (ts : List Symbol) (at k : ℕ) : Type 0 where
  pub within : k ≤ length ts
  pub runs : (i o : Option Claim) (H : List ClaimFrame) → claim_run (single_wanted (claim_frame i o none zero) H) (drop at ts) ≡ claim_bad (drop k ts)

pub record EitherSoFar (ts : List Symbol) (at p : ℕ) (x : Claim) : Type 0 where
  pub on : at < p
  pub within : p ≤ length ts
  pub runs : (i : Option Claim) (H : List ClaimFrame) → claim_run (single_wanted (claim_frame i none none zero) H) (drop at ts) ≡ claim_run (single_had (claim_frame i none none zero) H x) (drop p ts)
  pub and_over : Lacks And (drop p ts)

pub record EitherEnds (ts : List Symbol) (at p : ℕ) (x : Claim) : Type 0 where
  pub so_far : EitherSoFar ts at p x
  pub over : Lacks Or (drop p ts)

pub record EitherFails (ts : List Symbol) (at k : ℕ) : Type 0 where
  pub within : k ≤ length ts
  pub runs : (i : Option Claim) (H : List ClaimFrame) → claim_run (single_wanted (claim_frame i none none zero) H) (drop at ts) ≡ claim_bad (drop k ts)

-- after `x => y` the machine still knows that a `=>` was there
pub record ClaimEnds (ts : List Symbol) (at p : ℕ) (x : Claim) : Type 0 where
  pub on : at < p
  pub within : p ≤ length ts
  pub before : Option Claim
  pub last : Claim
  pub joined : with_if before last ≡ x
  pub runs : (H : List ClaimFrame) → claim_run (single_wanted fresh H) (drop at ts) ≡ claim_run (single_had (claim_frame before none none zero) H last) (drop p ts)
  pub and_over : Lacks And (drop p ts)
  pub or_over : Lacks Or (drop p ts)
  pub arrow_over : before ≡ none → Lacks Arrow (drop p ts)

pub record ClaimFails (ts : List Symbol) (at k : ℕ) : Type 0 where
  pub within : k ≤ length ts
  pub runs : (H : List ClaimFrame) → claim_run (single_wanted fresh H) (drop at ts) ≡ claim_bad (drop k ts)

pub record BaseEnds (ts : List Symbol) (at p : ℕ) (x : Pattern) : Type 0 where
  pub on : at < p
  pub within : p ≤ length ts
  pub runs : (f : Frame) (K : List Frame) → run (want f K) (drop at ts) ≡ run (have f K x) (drop p ts)

pub record BaseFails (ts : List Symbol) (at k : ℕ) : Type 0 where
  pub within : k ≤ length ts
  pub runs : (f : Frame) (K : List Frame) → run (want f K) (drop at ts) ≡ bad (drop k ts)

pub record PieceEnds (ts : List Symbol) (at p : ℕ) (x : Pattern) : Type 0 where
  pub base : BaseEnds ts at p x
  pub over : Lacks Star (drop p ts)

pub record ChainSoFar (ts : List Symbol) (at p : ℕ) (x : Pattern) : Type 0 where
  pub on : at < p
  pub within : p ≤ length ts
  pub runs : (r : Option Pattern) (K : List Frame) → run (want (frame r none) K) (drop at ts) ≡ run (have (frame r none) K x) (drop p ts)
  pub star_over : Lacks Star (drop p ts)

pub record ChainEnds (ts : List Symbol) (at p : ℕ) (x : Pattern) : Type 0 where
  pub so_far : ChainSoFar ts at p x
  pub over : Lacks Dot (drop p ts)

pub record ChainFails (ts : List Symbol) (at k : ℕ) : Type 0 where
  pub within : k ≤ length ts
  pub runs : (r : Option Pattern) (K : List Frame) → run (want (frame r none) K) (drop at ts) ≡ bad (drop k ts)

pub record RuleSoFar (ts : List Symbol) (at p : ℕ) (x : Pattern) : Type 0 where
  pub on : at < p
  pub within : p ≤ length ts
  pub runs : (K : List Frame) → run (want (frame none none) K) (drop at ts) ≡ run (have (frame none none) K x) (drop p ts)
  pub star_over : Lacks Star (drop p ts)
  pub dot_over : Lacks Dot (drop p ts)

pub record RuleEnds (ts : List Symbol) (at p : ℕ) (x : Pattern) : Type 0 where
  pub so_far : RuleSoFar ts at p x
  pub over : Lacks Bar (drop p ts)

pub record RuleFails (ts : List Symbol) (at k : ℕ) : Type 0 where
  pub within : k ≤ length ts
  pub runs : (K : List Frame) → run (want (frame none none) K) (drop at ts) ≡ bad (drop k ts)

-- the refusal e is that of the token that a reader could not go on with
abbrev pub Faulted : Tokens → (ℕ → Type 0) → Refusal → Type 0
Faulted t Fails e = Caused Unexpected t Fails e

-- the reader's tokens
abbrev pub symbols_in : Reader → List Symbol
symbols_in r = symbols_of r.tokens.now

-- a reader with nothing read
pub record Begins (t : Tokens) (new : Reader) : Type 0 where
  pub tokens : new.tokens.now ≡ t
  pub at : new.at ≡ 0
  pub tree : nodes_of new.tree ≡ []

-- the reader stepped over the symbol s
pub record Stepped (s : Symbol) (old new : Reader) : Type 0 where
  pub tokens : new.tokens.now ≡ old.tokens.now
  pub tree : new.tree ≡ old.tree
  pub at : new.at ≡ old.at + 1
  pub was : Next (symbols_in old) old.at s

-- it stepped over a token with this tag, or there is none
abbrev pub Eaten : Tag → Reader → Reader → Bool → Type 0
Eaten k old new true = (n : ℕ) × Stepped (symbol k n) old new
Eaten k old new false = (new ≡ old) × ((n : ℕ) → Lacks (symbol k n) (drop old.at (symbols_in old)))

abbrev pub Expected : Tag → Reader → Reader → Result (Unit {0}) Refusal → Type 0
Expected k old new (Ok x) = (n : ℕ) × Stepped (symbol k n) old new
Expected k old new (Err e) = Faulted old.tokens.now (λ p. (p ≡ old.at) × ((n : ℕ) → Lacks (symbol k n) (drop old.at (symbols_in old)))) e

-- it stepped over a symbol of a family, or there is none
abbrev pub Taken : {X : Type 0} → (X → Symbol) → Reader → Reader → Maybe X → Type 0
Taken f old new (Some x) = Stepped (f x) old new
Taken f old new None = (new ≡ old) × LacksAll f (drop old.at (symbols_in old))

-- it put the node v into the tree, at n
pub record Added (v : Node) (old new : Reader) (n : ℕ) : Type 0 where
  pub tokens : new.tokens.now ≡ old.tokens.now
  pub at : new.at ≡ old.at
  pub place : n ≡ length (nodes_of old.tree)
  pub more : nodes_of new.tree ≡ nodes_of old.tree ++ v ∷ []

-- it found x, and put no node into the tree
pub record Found {X : Type 0} (Ends : List Symbol → ℕ → ℕ → X → Type 0) (old new : Reader) (x : X) : Type 0 where
  pub tokens : new.tokens.now ≡ old.tokens.now
  pub tree : new.tree ≡ old.tree
  pub is : Ends (symbols_in old) old.at new.at x

abbrev pub Finds : {X : Type 0} → (List Symbol → ℕ → ℕ → X → Type 0) → (List Symbol → ℕ → ℕ → Type 0) → Reader → Reader → Result X Refusal → Type 0
Finds Ends Fails old new (Ok x) = Found Ends old new x
Finds Ends Fails old new (Err e) = Faulted old.tokens.now (Fails (symbols_in old) old.at) e

abbrev pub Led : Reader → Reader → Sign → Type 0
Led old new d = Found (λ ts at p x. Leads ts at x p) old new d

-- it read what the node n stands for
pub record Read {X : Type 0} (get : Thing → X) (Ends : List Symbol → ℕ → ℕ → X → Type 0) (old new : Reader) (n : ℕ) : Type 0 where
  pub tokens : new.tokens.now ≡ old.tokens.now
  pub made : Made get (Ends (symbols_in old) old.at) old.at (nodes_of old.tree) (nodes_of new.tree) new.at n

abbrev pub Reads : {X : Type 0} → (Thing → X) → (List Symbol → ℕ → ℕ → X → Type 0) → (List Symbol → ℕ → ℕ → Type 0) → Reader → Reader → Result ℕ Refusal → Type 0
Reads get Ends Fails old new (Ok n) = Read get Ends old new n
Reads get Ends Fails old new (Err e) = Faulted old.tokens.now (Fails (symbols_in old) old.at) e

abbrev pub First : List Symbol → ℕ → ℕ → Sum → Type 0
First ts at p x = SumOf ts at 1 p x

-- the tokens as a whole
pub record WholeIs (ts : List Symbol) (new : Tree) (root : ℕ) : Type 0 where
  pub there : root < length (nodes_of new)
  pub derived : Rule ts (pattern (nodes_of new) root)

abbrev pub WholeRead : Tokens → Reader → Result ℕ Refusal → Type 0
WholeRead t new (Ok root) = WholeIs (symbols_of t) new.tree root
WholeRead t new (Err e) = Faulted t (FirstBad (symbols_of t)) e
