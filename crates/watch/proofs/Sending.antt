-- A run of calls, one more at a time, and what it comes to.
use Rattle.std.proofs.Common.{◌≡◌, ℕ, ◌+◌, ◌<◌, List, [], ◌∷◌, ◌++◌, map, length, get_or, take, drop, set, sym, refl, ap, ◌∙◌, subst, ap₂, arith, drop-set-lt}
use Rattle.std.proofs.lemmas.List.{take_more, take_more_set, take-take, drop-drop}
use Rattle.engine.specs.declared.orders.Call.{Call}
use Rattle.engine.specs.declared.answers.Reply.{Reply}
use Rattle.engine.specs.Books.{Book}
use Rattle.engine.specs.Calls.{Alike, reply, book_after, replies, book_after_all, reply_aside}
use Rattle.ledger.specs.Ledger.{pile_of}
use Rattle.ledger.specs.Theorems.{PileLaws}
use Rattle.ledger.proofs.Laws.{every_pile}
use Rattle.watch.specs.Running.{Answered, Piled, AsPile, AsPair}

replies_snoc : (b : Book) (cs : List Call) (c : Call) → replies b (cs ++ (c ∷ [])) ≡ replies b cs ++ (reply (book_after_all b cs) c ∷ [])
replies_snoc b [] c = refl
replies_snoc b (x ∷ cs) c = ap (λ rs. reply b x ∷ rs) (replies_snoc (book_after b x) cs c)

book_snoc : (b : Book) (cs : List Call) (c : Call) → book_after_all b (cs ++ (c ∷ [])) ≡ book_after (book_after_all b cs) c
book_snoc b [] c = refl
book_snoc b (x ∷ cs) c = book_snoc (book_after b x) cs c

module _ (b : Book) (cs : List Call) (i : ℕ) (dc : Call) (within : i < length cs) (d : Book) (at : d ≡ book_after_all b (take i cs)) where
  pub told_more : (rs : List Reply) (r : Reply) → i < length rs → take i rs ≡ replies b (take i cs) → r ≡ reply d (get_or cs i dc)
      → take (i + 1) (set rs i r) ≡ replies b (take (i + 1) cs)
  told_more rs r room e k =
      take_more_set rs i r room
      ∙ ap (λ xs. xs ++ (r ∷ [])) e
      ∙ ap (λ x. replies b (take i cs) ++ (x ∷ [])) (k ∙ ap (λ c. reply c (get_or cs i dc)) at)
      ∙ sym (replies_snoc b (take i cs) (get_or cs i dc))
      ∙ ap (replies b) (sym (take_more cs i dc within))

  pub moved_more : (e : Book) → e ≡ book_after d (get_or cs i dc) → e ≡ book_after_all b (take (i + 1) cs)
  moved_more e k =
      k
      ∙ ap (λ c. book_after c (get_or cs i dc)) at
      ∙ sym (book_snoc b (take i cs) (get_or cs i dc))
      ∙ ap (book_after_all b) (sym (take_more cs i dc within))

pub rest_more : (i : ℕ) (old rs : List Reply) (r : Reply) → drop i rs ≡ drop i old → drop (i + 1) (set rs i r) ≡ drop (i + 1) old
rest_more i old rs r e =
    drop-set-lt (i + 1) rs i r (omega arith)
    ∙ sym (drop-drop 1 i rs) ∙ ap (drop 1) e ∙ drop-drop 1 i old

pub as_pile : (cs : List Call) (said : List Reply) (p : Book) → said ≡ replies p cs → AsPile p cs said
as_pile cs said p e ws b lawful is =
    let laws : PileLaws ws b p = every_pile ws b p lawful is in
    record {
      as_ledger = e ∙ ap (λ d. replies d cs) laws.as_ledger;
      in_any_order = λ vs d perm same. ap (map reply_aside) e ∙ laws.replies_alike vs d perm same cs;
      laws = laws;
    }

pub as_pair : (cs : List Call) (said others : List Reply) (p q : Book) → said ≡ replies p cs → others ≡ replies q cs → AsPair p q cs said others
as_pair cs said others p q e k ws vs b d lawful same perm is is₂ =
    let one : Piled ws b p cs said = as_pile cs said p e ws b lawful is in
    record {
      one = one;
      other = as_pile cs others q k vs b lawful (is₂ ∙ sym (ap (pile_of vs) same));
      replies = one.in_any_order vs d perm same ∙ sym (ap (map reply_aside) (k ∙ ap (λ x. replies x cs) is₂));
      pages = subst (Alike p) (sym is₂) (one.laws.pages_alike vs d perm same);
    }

-- A run that was handed the first k calls, and answered them all.
module _ (cs : List Call) (n m k : ℕ) (answered : m ≡ n) (handed : k ≡ n) where
  pub same_calls : take m (take k cs) ≡ take n cs
  same_calls = ap₂ (λ x y. take x (take y cs)) answered handed ∙ take-take n n cs (omega arith)

  pub all_answered : (p : Book) (old new : List Reply) → Answered p (take k cs) m old new → Answered p cs n old new
  all_answered p old new a = record {
    told = ap (λ x. take x new) (sym answered) ∙ a.told ∙ ap (replies p) same_calls;
    rest = ap (λ x. drop x new) (sym answered) ∙ a.rest ∙ ap (λ x. drop x old) answered;
  }
