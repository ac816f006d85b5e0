-- What runs of calls on piles come to.
use Rattle.std.specs.Prelude.{◌≡◌, ℕ, List, map, take, drop}
use mathlib.Core.List.{Permᴰ}
use Rattle.engine.specs.declared.orders.Call.{Call}
use Rattle.engine.specs.declared.answers.Reply.{Reply}
use Rattle.engine.specs.Books.{Book, Lawful}
use Rattle.engine.specs.Calls.{Alike, replies, reply_aside}
use Rattle.ledger.specs.Ledger.{Watcher, ledger, pile_of}
use Rattle.ledger.specs.Theorems.{PileLaws}

-- the first n places hold the replies to the first n calls, and the others what they held
pub record Answered (p : Book) (calls : List Call) (n : ℕ) (old new : List Reply) : Type 0 where
  pub told : take n new ≡ replies p (take n calls)
  pub rest : drop n new ≡ drop n old

-- What a pile of the watches ws over an engine with the book b has said to calls is what its ledger says, and what the same watches
-- in any order over an engine with an equal book would say, watch and rise aside. Its book keeps the laws of piles.
pub record Piled (ws : List Watcher) (b p : Book) (calls : List Call) (said : List Reply) : Type 0 where
  pub as_ledger : said ≡ replies (ledger ws b) calls
  pub in_any_order : (vs : List Watcher) (d : Book) → Permᴰ ws vs → b ≡ d → map reply_aside said ≡ map reply_aside (replies (pile_of vs d) calls)
  pub laws : PileLaws ws b p

abbrev pub AsPile : Book → List Call → List Reply → Type 0
AsPile p calls said = (ws : List Watcher) (b : Book) → Lawful b → p ≡ pile_of ws b → Piled ws b p calls said

-- Two piles of the same watches, in whatever order, over engines with equal books: each said what its ledger says, and the two the
-- same but for watch and rise, as are their pages for every list of orders.
pub record Paired (ws vs : List Watcher) (b p q : Book) (calls : List Call) (said others : List Reply) : Type 0 where
  pub one : Piled ws b p calls said
  pub other : Piled vs b q calls others
  pub replies : map reply_aside said ≡ map reply_aside others
  pub pages : Alike p q

abbrev pub AsPair : Book → Book → List Call → List Reply → List Reply → Type 0
AsPair p q calls said others =
    (ws vs : List Watcher) (b d : Book) → Lawful b → b ≡ d → Permᴰ ws vs → p ≡ pile_of ws b → q ≡ pile_of vs d → Paired ws vs b p q calls said others
