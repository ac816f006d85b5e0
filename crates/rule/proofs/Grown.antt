-- How nodes are put after others, and what they then stand for.
use Rattle.std.proofs.Common.{◌≡◌, ℕ, ◌+◌, ◌<◌, ◌≤◌, List, [], ◌∷◌, ◌++◌, length, get_or, sym, ap, ◌∙◌, subst, append_assoc, arith, length-append}
use Rattle.rule.specs.declared.node.Node.{Node}
use Rattle.rule.specs.Trees.{Thing, blank, made, things, thing}
use Rattle.rule.specs.Built.{Made}
use Rattle.rule.proofs.Things.{thing_old, thing_new}

longer : (old new : List Node) (v : Node) → new ≡ old ++ v ∷ [] → length new ≡ length old + 1
longer old new v e = omega (arith, ap length e, length-append old (v ∷ []))

-- a node with no part
pub leaf : {X : Type 0} (get : Thing → X) (Is : ℕ → X → Type 0) (at : ℕ) {old new : List Node} (v : Node) {p n : ℕ} (x : X)
    → new ≡ old ++ v ∷ [] → n ≡ length old → at < p
    → ((ts : List Thing) → get (made ts v) ≡ x) → Is p x → Made get Is at old new p n
leaf get Is at {old} {new} v {p} {n} x e k h m i = record {
  few = omega (arith, longer old new v e);
  more = v ∷ [];
  kept = e;
  there = omega (arith, longer old new v e);
  is = subst (Is p) (sym (ap get (thing_new old new v n e k) ∙ m (things [] old))) i;
}

-- a node with one part, which was read from q to r
pub wrap : {X Y : Type 0} (take : Thing → Y) {Js : ℕ → Y → Type 0} (get : Thing → X) (Is : ℕ → X → Type 0) (at q : ℕ) {old mid new : List Node} (v : Node) {p r i n : ℕ} (f : Y → X)
    → Made take Js q old mid r i → new ≡ mid ++ v ∷ [] → n ≡ length mid → at + 1 + r ≤ q + p
    → ((ts : List Thing) → get (made ts v) ≡ f (take (get_or ts i blank)))
    → Is p (f (take (thing mid i))) → Made get Is at old new p n
wrap take get Is at q {old} {mid} {new} v {p} {r} {i} {n} f a e k h m is = record {
  few = omega (arith, longer mid new v e, a.few);
  more = a.more ++ v ∷ [];
  kept = e ∙ ap (λ (l : List Node). l ++ v ∷ []) a.kept ∙ append_assoc old a.more (v ∷ []);
  there = omega (arith, longer mid new v e);
  is = subst (Is p) (sym (ap get (thing_new mid new v n e k) ∙ m (things [] mid))) is;
}

-- a node with two parts, the second read from q to p
pub join : {X Y Z : Type 0} (take : Thing → Y) {Js : ℕ → Y → Type 0} (take' : Thing → Z) {Ks : ℕ → Z → Type 0} (get : Thing → X) (Is : ℕ → X → Type 0) (at q : ℕ) {old mid right new : List Node} (v : Node) {r p i j n : ℕ} (f : Y → Z → X)
    → Made take Js at old mid r i → Made take' Ks q mid right p j → new ≡ right ++ v ∷ [] → n ≡ length right → r < q
    → ((ts : List Thing) → get (made ts v) ≡ f (take (get_or ts i blank)) (take' (get_or ts j blank)))
    → Is p (f (take (thing mid i)) (take' (thing right j))) → Made get Is at old new p n
join take take' get Is at q {old} {mid} {right} {new} v {r} {p} {i} {j} {n} f a b e k h m is = record {
  few = omega (arith, longer right new v e, a.few, b.few);
  more = a.more ++ (b.more ++ v ∷ []);
  kept =
      e ∙ ap (λ (l : List Node). l ++ v ∷ []) b.kept ∙ append_assoc mid b.more (v ∷ [])
      ∙ ap (λ (l : List Node). l ++ (b.more ++ v ∷ [])) a.kept ∙ append_assoc old a.more (b.more ++ v ∷ []);
  there = omega (arith, longer right new v e);
  is = subst (Is p) (sym (ap get (thing_new right new v n e k) ∙ m (things [] right)
      ∙ ap (λ (x : Thing). f (take x) (take' (thing right j))) (thing_old mid right b.more i b.kept a.there))) is;
}

-- the same node for more tokens
pub same : {X : Type 0} {get : Thing → X} {Js : ℕ → X → Type 0} (Is : ℕ → X → Type 0) (at q : ℕ) {old new : List Node} {p r n : ℕ}
    → (a : Made get Js q old new r n) → at + r ≤ q + p → Is p (get (thing new n)) → Made get Is at old new p n
same Is at q a h is = record { few = omega (arith, a.few); more = a.more; kept = a.kept; there = a.there; is = is }

-- an old node is still there
pub later : {X : Type 0} {get : Thing → X} {Is : ℕ → X → Type 0} {at : ℕ} {old new : List Node} {p n : ℕ} → Made get Is at old new p n → (i : ℕ) → i < length old → i < length new
later {old = old} a i h = omega (arith, ap length a.kept, length-append old a.more)
