-- What the cutter finds at a place of a text.
use Rattle.std.specs.Prelude.{ℕ, ◌+◌, Bool, cond, List, [], ◌∷◌, take, drop, Some, None, Ok, Err, Option, Result, ◌==◌, slice_index}
use Rattle.std.specs.Char.{is_ascii_digit, is_ascii_alphabetic}
use Rattle.std.specs.List.{prefix_len}
use Rattle.grammar.specs.declared.Refusal.{Refusal}
use Rattle.grammar.specs.declared.Refusal.TheVariants.{NotAToken}
use Rattle.grammar.specs.declared.Tag.{Tag}
use Rattle.grammar.specs.Symbol.{Symbol, tag}
use Rattle.grammar.specs.Spelling.{space, word_part}
use Rattle.grammar.specs.Marks.{mark_of_bytes, mark_of_byte}
use Rattle.rule.specs.declared.cutter.Token.{Token}
use Rattle.rule.specs.declared.cutter.Token.TheVariants.{Word, Number, Mark}

abbrev pub is_space : ℕ → Bool
is_space b = b == space

abbrev pub tagged : Option Symbol → Option Tag
tagged None = None
tagged (Some s) = Some (tag s)

abbrev pub sized : ℕ → Option Tag → Option (Tag × ℕ)
sized n None = None
sized n (Some k) = Some (k, n)

abbrev pub or_else : Option (Tag × ℕ) → Option (Tag × ℕ) → Option (Tag × ℕ)
or_else None o = o
or_else (Some x) o = Some x

-- the longest mark at the front, and its length
abbrev pub longest_mark : ℕ → ℕ → Option (Tag × ℕ)
longest_mark a b = or_else (sized 2 (tagged (mark_of_bytes a b))) (sized 1 (tagged (mark_of_byte a)))

-- a token without its references
pub data Piece : Type 0 where
  word : List ℕ → Piece
  number : List ℕ → Piece
  mark : Tag → Piece

abbrev pub piece : Token → Piece
piece (Word w) = word w.now
piece (Number w) = number w.now
piece (Mark k) = mark k

-- what comes of it: the end; a refusal; a token, its place and the place after it
pub data Scanned : Type 0 where
  over : Scanned
  refused : Refusal → Scanned
  cut : Piece → ℕ → ℕ → Scanned

abbrev pub marked : ℕ → Option (Tag × ℕ) → Scanned
marked place None = refused (NotAToken place)
marked place (Some x) = cut (mark x.0) place (place + x.1)

-- the bytes stand at place
abbrev pub front : ℕ → List ℕ → Scanned
front place [] = over
front place (b ∷ bs) =
    cond (is_ascii_alphabetic b) (cut (word (take (prefix_len word_part (b ∷ bs)) (b ∷ bs))) place (place + prefix_len word_part (b ∷ bs)))
    (cond (is_ascii_digit b) (cut (number (take (prefix_len is_ascii_digit (b ∷ bs)) (b ∷ bs))) place (place + prefix_len is_ascii_digit (b ∷ bs)))
    (marked place (longest_mark b (slice_index bs 0))))

-- where the next token begins
abbrev pub past : List ℕ → ℕ → ℕ
past text at = at + prefix_len is_space (drop at text)

abbrev pub scanned : List ℕ → ℕ → Scanned
scanned text at = front (past text at) (drop (past text at) text)

abbrev pub lexed : ℕ → Option (Token × ℕ) → Scanned
lexed place None = refused (NotAToken place)
lexed place (Some x) = cut (piece x.0) place (place + x.1)

-- what a call of `next` says, after which the cutter stands at `to`
abbrev pub told : Option (Result (Token × ℕ) Refusal) → ℕ → Scanned
told None to = over
told (Some (Ok x)) to = cut (piece x.0) x.1 to
told (Some (Err e)) to = refused e
