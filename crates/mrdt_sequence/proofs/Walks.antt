-- Walks over nodes.
use Rattle.std.proofs.Common.{◌≡◌, ℕ, ◌+◌, true, cond, None, Some, List, [], ◌∷◌, ◌++◌, length, drop, slice_get, refl, ◌∙◌, ap, sym, subst, append_assoc, length-append}
use Rattle.std.specs.List.{flat_map}
use Rattle.std.proofs.lemmas.List.Concat.{flat_map-append}
use Rattle.mrdt_model.specs.declared.time.Time.{Time}
use Rattle.mrdt_model.specs.Times.{is_earlier}
use Rattle.mrdt_model.specs.Spelled.{AppendsPart}
use Rattle.live_set.proofs.Writing.{PutSoFar, so_far-more, so_far-part, so_far-end}
use Rattle.mrdt_sequence.specs.declared.node.Node.{Node}
use Rattle.mrdt_sequence.specs.Order.{settle}
use Rattle.mrdt_sequence.specs.Sequence.{node_spelling}

pub first_ahead : (ns : List Node) (n : Node) → slice_get ns 0 ≡ Some n → ns ≡ n ∷ drop 1 ns
first_ahead [] n at = absurd (cc at)
first_ahead (m ∷ ns) n at = let own : m ≡ n = cc at in ap (λ k. k ∷ ns) own

pub none_ahead : (ns : List Node) → slice_get ns 0 ≡ None → ns ≡ []
none_ahead [] at = refl
none_ahead (n ∷ ns) at = absurd (cc at)

pub some_ahead : (ns : List Node) (n : Node) → slice_get ns 0 ≡ Some n → ¬ (ns ≡ [])
some_ahead [] n at = absurd (cc at)
some_ahead (m ∷ ns) n at = λ none. absurd (cc none)

-- the next node is written
pub put_more : (old out new whole : List ℕ) (ahead : List Node) (n : Node) (rest : List Node) → ahead ≡ n ∷ rest → PutSoFar old out (flat_map node_spelling ahead) whole → new ≡ out ++ node_spelling n → PutSoFar old new (flat_map node_spelling rest) whole
put_more old out new whole ahead n rest next so_far is =
    so_far-more old out new (node_spelling n) (flat_map node_spelling rest) whole (subst (λ ns. PutSoFar old out (flat_map node_spelling ns) whole) next so_far) is

-- a first part of the next node is written
pub put_part : (old out new whole : List ℕ) (ahead : List Node) (n : Node) (rest : List Node) → ahead ≡ n ∷ rest → PutSoFar old out (flat_map node_spelling ahead) whole → AppendsPart out new (node_spelling n) → AppendsPart old new whole
put_part old out new whole ahead n rest next so_far part =
    so_far-part old out new (node_spelling n) (flat_map node_spelling rest) whole (subst (λ ns. PutSoFar old out (flat_map node_spelling ns) whole) next so_far) part

-- all nodes are written
pub put_end : (old out whole : List ℕ) (ahead : List Node) → PutSoFar old out (flat_map node_spelling ahead) whole → ahead ≡ [] → out ≡ old ++ whole
put_end old out whole ahead so_far none = so_far-end old out (flat_map node_spelling ahead) whole so_far (ap (flat_map node_spelling) none)

-- behind these nodes of a list, others are ahead
pub record SettlesFrom (t : Time) (whole : List Node) (count : ℕ) (ahead : List Node) : Type 0 where
  pub front : List Node
  pub both : whole ≡ front ++ ahead
  pub many : length front ≡ count
  pub settles : (n : Node) → n.time ≡ t → settle n whole ≡ front ++ settle n ahead

module _ (t : Time) (whole : List Node) (count : ℕ) (ahead : List Node) (so_far : SettlesFrom t whole count ahead) where
  -- the next is newer
  pub settles-more : (m : Node) (rest : List Node) → ahead ≡ m ∷ rest → is_earlier t m.time ≡ true → SettlesFrom t whole (count + 1) rest
  settles-more m rest is newer = record {
    front = so_far.front ++ m ∷ [];
    both = so_far.both ∙ ap (λ ns. so_far.front ++ ns) is ∙ sym (append_assoc so_far.front (m ∷ []) rest);
    many = length-append so_far.front (m ∷ []) ∙ ap (λ c. c + 1) so_far.many;
    settles = λ n own.
        so_far.settles n own
        ∙ ap (λ ns. so_far.front ++ settle n ns) is
        ∙ ap (λ b. so_far.front ++ cond b (m ∷ settle n rest) (n ∷ m ∷ rest)) (ap (λ s. is_earlier s m.time) own ∙ newer)
        ∙ sym (append_assoc so_far.front (m ∷ []) (settle n rest));
  }

-- two lists that begin with the same nodes
pub record Alike (ms ns xs ys : List Node) : Type 0 where
  pub done : List Node
  pub first : ms ≡ done ++ xs
  pub second : ns ≡ done ++ ys

pub cancel : {X : Type 0} (done xs ys : List X) → done ++ xs ≡ done ++ ys → xs ≡ ys
cancel [] xs ys is = is
cancel (d ∷ done) xs ys is = let rest : done ++ xs ≡ done ++ ys = cc in cancel done xs ys rest

module _ (ms ns xs ys : List Node) (so_far : Alike ms ns xs ys) where
  pub alike-left : ms ≡ ns → xs ≡ ys
  alike-left same = cancel so_far.done xs ys (sym so_far.first ∙ same ∙ so_far.second)

  pub alike-spelled : flat_map node_spelling ms ≡ flat_map node_spelling ns → flat_map node_spelling xs ≡ flat_map node_spelling ys
  alike-spelled same =
      let spelled = λ (zs : List Node). flat_map-append node_spelling so_far.done zs in
      cancel (flat_map node_spelling so_far.done) (flat_map node_spelling xs) (flat_map node_spelling ys)
      (sym (spelled xs) ∙ ap (flat_map node_spelling) (sym so_far.first) ∙ same ∙ ap (flat_map node_spelling) so_far.second ∙ spelled ys)

  -- the next ones
  module _ (m n : Node) (ks ls : List Node) (left : xs ≡ m ∷ ks) (right : ys ≡ n ∷ ls) where
    pub alike-first : ms ≡ ns → m ≡ n
    alike-first same = let both : m ∷ ks ≡ n ∷ ls = sym left ∙ alike-left same ∙ right in cc

    pub alike-next : flat_map node_spelling ms ≡ flat_map node_spelling ns → node_spelling m ++ flat_map node_spelling ks ≡ node_spelling n ++ flat_map node_spelling ls
    alike-next same = sym (ap (flat_map node_spelling) left) ∙ alike-spelled same ∙ ap (flat_map node_spelling) right

  pub alike-more : (m n : Node) (ks ls : List Node) → xs ≡ m ∷ ks → ys ≡ n ∷ ls → m ≡ n → Alike ms ns ks ls
  alike-more m n ks ls left right same = record {
    done = so_far.done ++ m ∷ [];
    first = so_far.first ∙ ap (λ js. so_far.done ++ js) left ∙ sym (append_assoc so_far.done (m ∷ []) ks);
    second = so_far.second ∙ ap (λ js. so_far.done ++ js) right ∙ ap (λ k. so_far.done ++ (k ∷ ls)) (sym same) ∙ sym (append_assoc so_far.done (m ∷ []) ls);
  }
