-- The first ones of a list of nodes.
use Rattle.std.proofs.Common.{◌≡◌, ℕ, ◌-◌, ◌<◌, ◌≤◌, zero, suc, List, [], ◌∷◌, ◌++◌, length, take, refl, ap, sym, ◌∙◌, arith, slice_get, length-append}
use Rattle.std.proofs.lemmas.List.{take-take, take_all, length-take-le, append_cancel_left}
use Rattle.std.proofs.Math.Seq.{take-append_seam}
use Rattle.virtual_base.specs.Nodes.{NodesView, without_last}
use Rattle.store_seen.specs.Nodes.{first_nodes}

-- an element among the first ones is that of the whole list
pub slice_get-first : {X : Type 0} (xs : List X) (count n : ℕ) → n < count → slice_get (take count xs) n ≡ slice_get xs n
slice_get-first xs zero n lt = absurd (omega arith)
slice_get-first [] (suc count) n lt = refl
slice_get-first (x ∷ xs) (suc count) zero lt = refl
slice_get-first (x ∷ xs) (suc count) (suc n) lt = slice_get-first xs count n (omega arith)

module _ {S : Type 0} (nodes : NodesView S) where
  first_nodes-of : (count : ℕ) (commits : List (List ℕ)) (values : List S) (addresses : List (List ℕ)) → take count nodes.graph.commits ≡ commits → take count nodes.values ≡ values → take count nodes.addresses ≡ addresses
      → first_nodes count nodes ≡ record { graph = record nodes.graph { commits = commits }; values = values; addresses = addresses }
  first_nodes-of count commits values addresses c v a =
      ap (λ (l : List (List ℕ)). let n : NodesView S = record { graph = record nodes.graph { commits = l }; values = take count nodes.values; addresses = take count nodes.addresses } in n) c
      ∙ ap (λ (l : List S). let n : NodesView S = record { graph = record nodes.graph { commits = commits }; values = l; addresses = take count nodes.addresses } in n) v
      ∙ ap (λ (l : List (List ℕ)). let n : NodesView S = record { graph = record nodes.graph { commits = commits }; values = values; addresses = l } in n) a

  -- the first ones are all of them
  pub first_nodes-all : (count : ℕ) → count ≡ length nodes.graph.commits → length nodes.values ≡ length nodes.graph.commits → length nodes.addresses ≡ length nodes.graph.commits → first_nodes count nodes ≡ nodes
  first_nodes-all count is valued addressed =
      first_nodes-of count nodes.graph.commits nodes.values nodes.addresses
      (take_all count nodes.graph.commits (omega arith)) (take_all count nodes.values (omega arith)) (take_all count nodes.addresses (omega arith))

  -- the first ones of the first ones
  pub first_nodes-fewer : (few count : ℕ) → few ≤ count → first_nodes few (first_nodes count nodes) ≡ first_nodes few nodes
  first_nodes-fewer few count le =
      sym (first_nodes-of few (take few (take count nodes.graph.commits)) (take few (take count nodes.values)) (take few (take count nodes.addresses))
      (sym (take-take few count nodes.graph.commits le)) (sym (take-take few count nodes.values le)) (sym (take-take few count nodes.addresses le)))

  -- the first ones without the last of them
  pub first_nodes-popped : (n : ℕ) → 0 < n → n ≤ length nodes.graph.commits → without_last (first_nodes n nodes) ≡ first_nodes (n - 1) nodes
  first_nodes-popped n some le =
      let size = length-take-le n nodes.graph.commits le in
      ap (λ k. first_nodes (k - 1) (first_nodes n nodes)) size ∙ first_nodes-fewer (n - 1) n (omega arith)

-- where the first ones are as many as their limit allows
pub full-first : {S : Type 0} (nodes first : NodesView S) (count held : ℕ) → count ≤ length nodes.graph.commits → first ≡ first_nodes count nodes → first.graph.limit ≤ held → length first.graph.commits ≡ held → nodes.graph.limit ≤ count
full-first nodes first count held le is full size =
    let limit = ap (λ n. n.graph.limit) is in
    let cut = ap (λ n. length n.graph.commits) is ∙ length-take-le count nodes.graph.commits le in
    omega arith

-- lists that end with one element more are equal without it
pub same_without_last : {X : Type 0} (xs ys : List X) (x y : X) → xs ++ x ∷ [] ≡ ys ++ y ∷ [] → xs ≡ ys
same_without_last xs ys x y e =
    let left = length-append xs (x ∷ []) in
    let right = length-append ys (y ∷ []) in
    let both = ap length e in
    let same : length xs ≡ length ys = omega arith in
    sym (take-append_seam xs (x ∷ [])) ∙ ap (take (length xs)) e ∙ ap (λ n. take n (ys ++ y ∷ [])) same ∙ take-append_seam ys (y ∷ [])

pub without_last-is : {X : Type 0} (xs : List X) (x : X) → take (length (xs ++ x ∷ []) - 1) (xs ++ x ∷ []) ≡ xs
without_last-is xs x =
    let size = length-append xs (x ∷ []) in
    let rest : length (xs ++ x ∷ []) - 1 ≡ length xs = omega arith in
    ap (λ n. take n (xs ++ x ∷ [])) rest ∙ take-append_seam xs (x ∷ [])

-- and have the same last element
pub same_last : {X : Type 0} (xs ys : List X) (x y : X) → xs ++ x ∷ [] ≡ ys ++ y ∷ [] → x ≡ y
same_last xs ys x y e =
    let same = append_cancel_left ys (x ∷ []) (y ∷ []) (ap (λ l. l ++ x ∷ []) (sym (same_without_last xs ys x y e)) ∙ e) in
    cc
