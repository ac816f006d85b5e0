-- How a text is cut into tokens: at each place the longest that stands there, with spaces around them as wished.
use Rattle.std.specs.Prelude.{◌≡◌, ℕ, ◌+◌, ◌≤◌, T, List, [], ◌∷◌, ◌++◌, length, ◌≢◌, slice_index_or}
use Rattle.grammar.specs.Symbol.{Symbol}
use Rattle.grammar.specs.Spelling.{space, Word, Digits, Spells, mark}

-- bytes that are taken together: a word, known or not, a run of digits, or a mark
pub data Lexeme (w : List ℕ) : Type 0 where
  a_word : Word w → Lexeme w
  a_number : Digits w → Lexeme w
  a_mark : (s : Symbol) → T (mark s) → Spells s w → Lexeme w

-- w is a lexeme, and nothing longer at the front of w ++ rest is one
pub record Longest (w rest : List ℕ) : Type 0 where
  pub lexeme : Lexeme w
  pub longest : (v back : List ℕ) → Lexeme v → w ++ rest ≡ v ++ back → length v ≤ length w

-- a token: a symbol, and how many bytes stand before it
pub record Placed : Type 0 where
  pub symbol : Symbol
  pub place : ℕ

abbrev pub placed : Symbol → ℕ → Placed
placed s n = record { symbol = s; place = n }

abbrev pub symbols : List Placed → List Symbol
symbols [] = []
symbols (t ∷ ts) = t.symbol ∷ symbols ts

abbrev pub places : List Placed → List ℕ
places [] = []
places (t ∷ ts) = t.place ∷ places ts

-- the place of the token k, or the end of the text if there is none
abbrev pub place_at : List ℕ → List Placed → ℕ → ℕ
place_at text ts k = slice_index_or (places ts) k (length text)

-- Cut n bytes ts: these bytes, with n bytes before them, are cut into the tokens ts
pub data Cut : ℕ → List ℕ → List Placed → Type 0 where
  cut_end : {n : ℕ} → Cut n [] []
  cut_space : {n : ℕ} {bs : List ℕ} {ts : List Placed} → Cut (n + 1) bs ts → Cut n (space ∷ bs) ts
  cut_token : {n : ℕ} {w rest : List ℕ} {s : Symbol} {ts : List Placed} → Longest w rest → Spells s w → Cut (n + length w) rest ts → Cut n (w ++ rest) (placed s n ∷ ts)

-- Uncut n bytes p: in these bytes, with n bytes before them, tokens stand up to place p, and there what is none: bytes that
-- begin no lexeme, or a lexeme that spells no symbol
pub data Uncut : ℕ → List ℕ → ℕ → Type 0 where
  uncut_byte : {n b : ℕ} {bs : List ℕ} → (b ≢ space) → ((v back : List ℕ) → Lexeme v → b ∷ bs ≢ v ++ back) → Uncut n (b ∷ bs) n
  uncut_lexeme : {n : ℕ} {w rest : List ℕ} → Longest w rest → ((s : Symbol) → Spells s w → ⊥) → Uncut n (w ++ rest) n
  uncut_space : {n p : ℕ} {bs : List ℕ} → Uncut (n + 1) bs p → Uncut n (space ∷ bs) p
  uncut_later : {n p : ℕ} {w rest : List ℕ} (s : Symbol) → Longest w rest → Spells s w → Uncut (n + length w) rest p → Uncut n (w ++ rest) p
