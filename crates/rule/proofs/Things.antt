-- What numbered nodes stand for.
use Rattle.std.proofs.Common.{◌≡◌, ℕ, zero, suc, ◌+◌, ◌<◌, ◌≤◌, true, List, [], ◌∷◌, ◌++◌, map, length, get_or, sym, refl, ap, ◌∙◌, subst, ⊎_elim, arith, length-append}
use Rattle.std.proofs.lemmas.List.{get_or_append_left, get_or_past, map_push}
use Rattle.std.proofs.Math.ListN.{get_or-map}
use Rattle.std.proofs.str.Laws.{order}
use Rattle.rule.specs.declared.node.Node.{Node}
use Rattle.rule.specs.declared.node.Node.TheVariants.{Empty, Claim, Alternative, Sequence, Star, Implication, Disjunction, Conjunction, Negation, Truth, Presence, Comparison, First, More}
use Rattle.rule.specs.declared.entry.Entry.{Entry}
use Rattle.rule.specs.Summaries.{summary}
use Rattle.rule.specs.Order.{ordered, PartsBelow}
use Rattle.rule.specs.Trees.{Thing, as_pattern, blank, made, things, thing, node_at, summaries_of, summary_at, summary_with, nodes_in, summaries_in}
use Rattle.grammar.specs.Tree.{implication, disjunction, conjunction, negation, comparison, empty, claim, alternative, sequence, star, more}
use Rattle.rule.specs.Trees.{as_claim, as_sum, a_pattern, a_claim, a_sum}
use Rattle.rule.proofs.Nodes.{ordered_first, ordered_rest}

things_more : (ts : List Thing) (ns ms : List Node) → things ts (ns ++ ms) ≡ things (things ts ns) ms
things_more ts [] ms = refl
things_more ts (n ∷ ns) ms = things_more (ts ++ made ts n ∷ []) ns ms

pub things_length : (ts : List Thing) (ns : List Node) → length (things ts ns) ≡ length ts + length ns
things_length ts [] = omega arith
things_length ts (n ∷ ns) = omega (arith, things_length (ts ++ made ts n ∷ []) ns, length-append ts (made ts n ∷ []))

-- the things before stay
things_begin : (ts : List Thing) (ns : List Node) (i : ℕ) → i < length ts → get_or (things ts ns) i blank ≡ get_or ts i blank
things_begin ts [] i h = refl
things_begin ts (n ∷ ns) i h =
    things_begin (ts ++ made ts n ∷ []) ns i (omega (arith, length-append ts (made ts n ∷ [])))
    ∙ get_or_append_left ts (made ts n ∷ []) blank i h

pub thing_old : (old new added : List Node) (i : ℕ) → new ≡ old ++ added → i < length old → thing new i ≡ thing old i
thing_old old new added i e h =
    ap (λ (l : List Node). thing l i) e
    ∙ ap (λ (l : List Thing). get_or l i blank) (things_more [] old added)
    ∙ things_begin (things [] old) added i (omega (arith, things_length [] old))

last : (xs : List Thing) (y : Thing) → get_or (xs ++ y ∷ []) (length xs) blank ≡ y
last [] y = refl
last (x ∷ xs) y = last xs y

pub thing_new : (old new : List Node) (v : Node) (n : ℕ) → new ≡ old ++ v ∷ [] → n ≡ length old → thing new n ≡ made (things [] old) v
thing_new old new v n e k =
    ap (λ (l : List Node). thing l n) e
    ∙ ap (λ (l : List Thing). get_or l n blank) (things_more [] old (v ∷ []))
    ∙ ap (λ (j : ℕ). get_or (things [] old ++ made (things [] old) v ∷ []) j blank) (let z : n ≡ length (things [] old) = omega (arith, things_length [] old) in z)
    ∙ last (things [] old) (made (things [] old) v)

-- a node stands for the same over lists that agree on its parts
made_same : (ts us : List Thing) (k : ℕ) (v : Node) → ((a : ℕ) → a < k → get_or ts a blank ≡ get_or us a blank) → PartsBelow k v → made ts v ≡ made us v
made_same ts us k Empty h p = refl
made_same ts us k (Claim a) h p = ap (λ x. a_pattern (claim (as_claim x))) (h a p)
made_same ts us k (Alternative a b) h p = λ i. a_pattern (alternative (as_pattern (h a p.0 i)) (as_pattern (h b p.1 i)))
made_same ts us k (Sequence a b) h p = λ i. a_pattern (sequence (as_pattern (h a p.0 i)) (as_pattern (h b p.1 i)))
made_same ts us k (Star a) h p = ap (λ x. a_pattern (star (as_pattern x))) (h a p)
made_same ts us k (Implication a b) h p = λ i. a_claim (implication (as_claim (h a p.0 i)) (as_claim (h b p.1 i)))
made_same ts us k (Disjunction a b) h p = λ i. a_claim (disjunction (as_claim (h a p.0 i)) (as_claim (h b p.1 i)))
made_same ts us k (Conjunction a b) h p = λ i. a_claim (conjunction (as_claim (h a p.0 i)) (as_claim (h b p.1 i)))
made_same ts us k (Negation a) h p = ap (λ x. a_claim (negation (as_claim x))) (h a p)
made_same ts us k Truth h p = refl
made_same ts us k (Presence l) h p = refl
made_same ts us k (Comparison r a b) h p = λ i. a_claim (comparison r (as_sum (h a p.0 i)) (as_sum (h b p.1 i)))
made_same ts us k (First d t) h p = refl
made_same ts us k (More a d t) h p = ap (λ x. a_sum (more (as_sum x) d t)) (h a p)

node_thing : (ts : List Thing) (ns : List Node) (i : ℕ) → ordered (length ts) ns ≡ true → i < length ns → get_or (things ts ns) (length ts + i) blank ≡ made (things ts ns) (node_at ns i)
node_thing ts [] i o h = absurd (omega arith)
node_thing ts (n ∷ ns) zero o h =
    let us = ts ++ made ts n ∷ [] in
    let long : length us ≡ length ts + 1 = length-append ts (made ts n ∷ []) in
    let z : length ts + 0 ≡ length ts = omega arith in
    ap (λ j. get_or (things us ns) j blank) z
    ∙ things_begin us ns (length ts) (omega arith)
    ∙ last ts (made ts n)
    ∙ made_same ts (things us ns) (length ts) n (λ a k. sym (things_begin us ns a (omega arith) ∙ get_or_append_left ts (made ts n ∷ []) blank a k)) (ordered_first (length ts) n ns o)
node_thing ts (n ∷ ns) (suc i) o h =
    let us = ts ++ made ts n ∷ [] in
    let long : length us ≡ length ts + 1 = length-append ts (made ts n ∷ []) in
    let z : length ts + suc i ≡ length us + i = omega arith in
    ap (λ j. get_or (things us ns) j blank) z
    ∙ node_thing us ns i (subst (λ k. ordered k ns ≡ true) (sym long) (ordered_rest (length ts) n ns o)) (omega arith)

thing_within : (ns : List Node) (i : ℕ) → ordered 0 ns ≡ true → i < length ns → thing ns i ≡ made (things [] ns) (node_at ns i)
thing_within ns i o h =
    let z : i ≡ 0 + i = omega arith in
    ap (λ j. thing ns j) z ∙ node_thing [] ns i o h

thing_past : (ns : List Node) (i : ℕ) → length ns ≤ i → thing ns i ≡ blank
thing_past ns i h = get_or_past (things [] ns) i blank (omega (arith, things_length [] ns))

-- what the node i stands for, by what its parts stand for; past the end there is an empty pattern
pub thing_made : (ns : List Node) (i : ℕ) → ordered 0 ns ≡ true → thing ns i ≡ made (things [] ns) (node_at ns i)
thing_made ns i o =
    ⊎_elim (λ h. thing_within ns i o h)
    (λ h. thing_past ns i h ∙ sym (ap (made (things [] ns)) (get_or_past ns i Empty h)))
    (order i (length ns))

-- the entry of an empty pattern
abbrev pub blank_entry : Entry
blank_entry = record { node = Empty; summary = summary empty }

-- the stored summaries are those of the nodes
pub summary_stored : (es : List Entry) → summaries_in es ≡ summaries_of (nodes_in es) → (i : ℕ) → (get_or es i blank_entry).summary ≡ summary_at (nodes_in es) i
summary_stored es e i =
    sym (get_or-map (λ x. x.summary) es i blank_entry) ∙ ap (λ l. get_or l i (summary empty)) e
    ∙ get_or-map (λ t. summary (as_pattern t)) (things [] (nodes_in es)) i blank

pub summaries_push : (old new : List Node) (v : Node) → new ≡ old ++ v ∷ [] → summaries_of new ≡ summaries_of old ++ summary_with old v ∷ []
summaries_push old new v e =
    ap summaries_of e ∙ ap (map (λ t. summary (as_pattern t))) (things_more [] old (v ∷ []))
    ∙ map_push (λ t. summary (as_pattern t)) (things [] old) (made (things [] old) v)
