-- How what the methods of the reader did joins.
use Rattle.std.proofs.Common.{◌≡◌, ℕ, ◌+◌, ◌<◌, ◌≤◌, List, [], ◌∷◌, ◌++◌, length, get_or, drop, sym, ap, ◌∙◌, subst, arith}
use Rattle.grammar.specs.declared.Refusal.{Refusal}
use Rattle.grammar.specs.declared.Refusal.TheVariants.{Unexpected}
use Rattle.grammar.specs.declared.Tag.{Tag}
use Rattle.grammar.specs.Symbol.{Symbol}
use Rattle.rule.specs.declared.node.Node.{Node}
use Rattle.rule.specs.declared.reader.Reader.{Reader}
use Rattle.rule.specs.declared.tokens.Tokens.{Tokens}
use Rattle.rule.specs.Spots.{symbol}
use Rattle.rule.specs.Trees.{Thing, blank, made, thing}
use Rattle.rule.specs.Built.{nodes_of, Made}
use Rattle.rule.specs.Stored.{symbols_of, place_in}
use Rattle.rule.specs.Readers.{symbols_in, Lacks, Next, Faulted, Stepped, Added, Found, Read}
use Rattle.rule.proofs.Faults.{faulted}
use Rattle.rule.proofs.Grown.{leaf, wrap, join, same}

-- the tokens of u are those of t
pub fails_of : {t u : Tokens} {e : Refusal} (F : List Symbol → ℕ → Type 0) {G : ℕ → Type 0} → u ≡ t → ((k : ℕ) → F (symbols_of t) k → G k) → Faulted u (F (symbols_of u)) e → Faulted t G e
fails_of {e = e} F h g f = faulted g (subst (λ t. Faulted t (F (symbols_of t)) e) h f)

-- a step over y from m to s, where the tokens of m are those of o
module _ (o : Reader) {m s : Reader} {y : Symbol} (h : m.tokens.now ≡ o.tokens.now) (st : Stepped y m s) where
  pub next : Next (symbols_in o) m.at y
  next = subst (λ t. Next (symbols_of t) m.at y) h st.was

  -- what holds at the next token
  pub on : (P : List Symbol → ℕ → Type 0) → P (symbols_in s) s.at → P (symbols_in o) (m.at + 1)
  on P x = subst (P (symbols_in o)) st.at (subst (λ t. P (symbols_of t) s.at) (st.tokens ∙ h) x)

  pub made_on : {X : Type 0} {get : Thing → X} {Ends : List Symbol → ℕ → ℕ → X → Type 0} {r : Reader} {n : ℕ}
      → Read get Ends s r n → Made get (Ends (symbols_in o) (m.at + 1)) (m.at + 1) (nodes_of m.tree) (nodes_of r.tree) r.at n
  made_on {get = get} {Ends = Ends} {r = r} {n = n} b =
      subst (λ t. Made get (Ends (symbols_in o) (m.at + 1)) (m.at + 1) (nodes_of t) (nodes_of r.tree) r.at n) st.tree
      (on (λ ts p. Made get (Ends ts p) p (nodes_of s.tree) (nodes_of r.tree) r.at n) b.made)

  pub found_on : {X : Type 0} {Ends : List Symbol → ℕ → ℕ → X → Type 0} {r : Reader} {x : X} → Found Ends s r x → Ends (symbols_in o) (m.at + 1) r.at x
  found_on {Ends = Ends} {r = r} {x = x} b = on (λ ts p. Ends ts p r.at x) b.is

  pub fails_on : (Fails : List Symbol → ℕ → ℕ → Type 0) {G : ℕ → Type 0} {e : Refusal}
      → ((k : ℕ) → Fails (symbols_in o) (m.at + 1) k → G k) → Faulted s.tokens.now (Fails (symbols_in s) s.at) e → Faulted o.tokens.now G e
  fails_on Fails g = fails_of (λ ts. Fails ts s.at) (st.tokens ∙ h) (λ k f. g k (subst (λ p. Fails (symbols_in o) p k) st.at f))

-- the nodes of q, and one more
more_of : {q new : Reader} {v : Node} {n : ℕ} {ns : List Node} → Added v q new n → nodes_of q.tree ≡ ns → nodes_of new.tree ≡ ns ++ v ∷ []
more_of {v = v} d e = d.more ∙ ap (λ l. l ++ v ∷ []) e

place_of : {q new : Reader} {v : Node} {n : ℕ} {ns : List Node} → Added v q new n → nodes_of q.tree ≡ ns → n ≡ length ns
place_of d e = d.place ∙ ap length e

module _ (o : Reader) {q new : Reader} {v : Node} {n : ℕ} (h : q.tokens.now ≡ o.tokens.now) (d : Added v q new n) where
  at_new : {X : Type 0} {get : Thing → X} {Ends : List Symbol → ℕ → ℕ → X → Type 0}
      → Made get (Ends (symbols_in o) o.at) o.at (nodes_of o.tree) (nodes_of new.tree) q.at n → Read get Ends o new n
  at_new {get = get} {Ends = Ends} a = record {
    tokens = d.tokens ∙ h;
    made = subst (λ p. Made get (Ends (symbols_in o) o.at) o.at (nodes_of o.tree) (nodes_of new.tree) p n) (sym d.at) a;
  }

  pub leaf_read : {X : Type 0} (get : Thing → X) {Ends : List Symbol → ℕ → ℕ → X → Type 0} {x : X}
      → nodes_of q.tree ≡ nodes_of o.tree → o.at < q.at → ((ts : List Thing) → get (made ts v) ≡ x) → Ends (symbols_in o) o.at q.at x → Read get Ends o new n
  leaf_read get {Ends = Ends} {x = x} e k m is = at_new (leaf get (Ends (symbols_in o) o.at) o.at v x (more_of d e) (place_of d e) k m is)

  pub wrap_read : {X Y : Type 0} (take : Thing → Y) {Js : ℕ → Y → Type 0} (get : Thing → X) {Ends : List Symbol → ℕ → ℕ → X → Type 0} (f : Y → X) (b : ℕ) {mid : List Node} {r i : ℕ}
      → Made take Js b (nodes_of o.tree) mid r i → nodes_of q.tree ≡ mid → o.at + 1 + r ≤ b + q.at
      → ((ts : List Thing) → get (made ts v) ≡ f (take (get_or ts i blank))) → Ends (symbols_in o) o.at q.at (f (take (thing mid i))) → Read get Ends o new n
  wrap_read take get {Ends = Ends} f b a e k m is = at_new (wrap take get (Ends (symbols_in o) o.at) o.at b v f a (more_of d e) (place_of d e) k m is)

  pub join_read : {X Y Z : Type 0} (take : Thing → Y) {Js : ℕ → Y → Type 0} (take' : Thing → Z) {Ks : ℕ → Z → Type 0} (get : Thing → X) {Ends : List Symbol → ℕ → ℕ → X → Type 0} (f : Y → Z → X) (b : ℕ) {mid : List Node} {r i j : ℕ}
      → Made take Js o.at (nodes_of o.tree) mid r i → Made take' Ks b mid (nodes_of q.tree) q.at j → r < b
      → ((ts : List Thing) → get (made ts v) ≡ f (take (get_or ts i blank)) (take' (get_or ts j blank)))
      → Ends (symbols_in o) o.at q.at (f (take (thing mid i)) (take' (thing (nodes_of q.tree) j))) → Read get Ends o new n
  join_read take take' get {Ends = Ends} f b a c k m is = at_new (join take take' get (Ends (symbols_in o) o.at) o.at b v f a c d.more d.place k m is)

-- a thing found, its end by another term
pub found_to : {X : Type 0} {Ends : List Symbol → ℕ → ℕ → X → Type 0} {o new : Reader} {x : X} {p : ℕ}
    → new.tokens.now ≡ o.tokens.now → new.tree ≡ o.tree → new.at ≡ p → Ends (symbols_in o) o.at p x → Found Ends o new x
found_to {Ends = Ends} {o = o} {x = x} h t k e = record { tokens = h; tree = t; is = subst (λ p. Ends (symbols_in o) o.at p x) (sym k) e }

-- what holds of the tokens of m holds of those of o
pub of : (o m : Reader) → m.tokens.now ≡ o.tokens.now → (P : List Symbol → Type 0) → P (symbols_in m) → P (symbols_in o)
of o m h P = subst (λ t. P (symbols_of t)) h

-- two things with a token between them
pub joined : {X Y Z : Type 0} (take : Thing → Y) {Js : List Symbol → ℕ → ℕ → Y → Type 0} (take' : Thing → Z) {Ks : List Symbol → ℕ → ℕ → Z → Type 0} (get : Thing → X) {Ends : List Symbol → ℕ → ℕ → X → Type 0} (f : Y → Z → X)
    {o m s r new : Reader} {y : Symbol} {v : Node} {i j n : ℕ} → Read take Js o m i → Stepped y m s → Read take' Ks s r j → Added v r new n
    → ((ts : List Thing) → get (made ts v) ≡ f (take (get_or ts i blank)) (take' (get_or ts j blank)))
    → ((a : Y) (b : Z) → Js (symbols_in o) o.at m.at a → Next (symbols_in o) m.at y → Ks (symbols_in o) (m.at + 1) r.at b → Ends (symbols_in o) o.at r.at (f a b))
    → Read get Ends o new n
joined take take' get f {o = o} {m = m} a w b d k is =
    let c = made_on o a.tokens w b in
    join_read o (b.tokens ∙ w.tokens ∙ a.tokens) d take take' get f (m.at + 1) a.made c (omega arith) k (is _ _ a.made.is (next o a.tokens w) c.is)

-- the token at which m stopped is refused
pub refused_at : {P : ℕ → Type 0} {e : Refusal} (o m n : Reader) → n ≡ m → m.tokens.now ≡ o.tokens.now → e ≡ Unexpected (place_in n.tokens.now n.at) → P m.at → Faulted o.tokens.now P e
refused_at o m n h k e p = record {
  index = m.at;
  holds = p;
  is = e ∙ ap (λ r. Unexpected (place_in r.tokens.now r.at)) h ∙ ap (λ t. Unexpected (place_in t m.at)) k;
}

-- nothing more of the kind comes
pub ended : {X : Type 0} {get : Thing → X} {Js Ends : List Symbol → ℕ → ℕ → X → Type 0} {o m n : Reader} {i : ℕ}
    → Read get Js o m i → n ≡ m → ((x : X) → Js (symbols_in o) o.at m.at x → Ends (symbols_in o) o.at m.at x) → Read get Ends o n i
ended {get = get} {Ends = Ends} {o = o} {i = i} a h is =
    subst (λ r. Read get Ends o r i) (sym h) (record { tokens = a.tokens; made = same (Ends (symbols_in o) o.at) o.at o.at a.made (omega arith) (is _ a.made.is) })

pub lacks_in : (o m : Reader) → m.tokens.now ≡ o.tokens.now → (y : Symbol) → Lacks y (drop m.at (symbols_in m)) → Lacks y (drop m.at (symbols_in o))
lacks_in o m h y = of o m h (λ ts. Lacks y (drop m.at ts))

-- another token was wanted where r stands
pub wanted : {P : ℕ → Type 0} {e : Refusal} (o r : Reader) (k : Tag) → r.tokens.now ≡ o.tokens.now → (((n : ℕ) → Lacks (symbol k n) (drop r.at (symbols_in o))) → P r.at)
    → Faulted r.tokens.now (λ p. (p ≡ r.at) × ((n : ℕ) → Lacks (symbol k n) (drop r.at (symbols_in r)))) e → Faulted o.tokens.now P e
wanted {P = P} o r k h g = fails_of (λ ts p. (p ≡ r.at) × ((n : ℕ) → Lacks (symbol k n) (drop r.at ts))) h (λ p f. subst P (sym f.0) (g f.1))

-- the end by another term
pub ends_at : {X : Type 0} (Ends : ℕ → X → Type 0) {x : X} {p q : ℕ} → q ≡ p → Ends p x → Ends q x
ends_at Ends {x = x} h e = subst (λ k. Ends k x) (sym h) e
