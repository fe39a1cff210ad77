-- The plain forms of a mergeable type's operations, queries, replies and answers.
use Rattle.std.specs.Prelude.{◌≡◌, ◌↔◌, Bool, true, false, Option, None, Some}
use Rattle.branch_doc.specs.declared.plain.Kind.{Kind}
use Rattle.branch_doc.specs.declared.plain.Kind.TheVariants as kind
use Rattle.branch_doc.specs.declared.plain.PlainOp.{PlainOp}
use Rattle.branch_doc.specs.declared.plain.PlainQuery.{PlainQuery}
use Rattle.branch_doc.specs.declared.plain.PlainReply.{PlainReply}
use Rattle.branch_doc.specs.declared.plain.PlainAnswer.{PlainAnswer}
use Rattle.branch_doc.specs.Kinds.{op_kind, query_kind, reply_kind, answer_kind}

-- the operation and the query that a plain form stands for, the plain forms of replies and answers, and whether the
-- type has values of a kind
pub record PlainForms (O Q R A : Type 0) : Type 0 where
  pub op : PlainOp → Option O
  pub query : PlainQuery → Option Q
  pub reply : R → PlainReply
  pub answer : A → PlainAnswer
  pub has : Kind → Bool

-- each value is named by one plain form, and a plain form names none exactly where the type lacks its kind
pub record AreNames {P X : Type 0} (named : P → Option X) (has : Kind → Bool) (kind_of : P → Kind) : Type 0 where
  pub one : (p q : P) (x : X) → named p ≡ Some x → named q ≡ Some x → p ≡ q
  pub each : (x : X) → (p : P) × (named p ≡ Some x)
  pub lacks : (p : P) → (named p ≡ None) ↔ (has (kind_of p) ≡ false)

-- different values have different plain forms, and those are the ones of the kinds that the type has
pub record AreNamed {P X : Type 0} (name : X → P) (has : Kind → Bool) (kind_of : P → Kind) : Type 0 where
  pub one : (x y : X) → name x ≡ name y → x ≡ y
  pub each : (p : P) → has (kind_of p) ≡ true → (x : X) × (name x ≡ p)
  pub only : (x : X) → has (kind_of (name x)) ≡ true

-- plain forms and the type's own correspond one to one, but for those of kinds that the type lacks: of the kinds,
-- sequences alone may be lacking
pub record AreForms {O Q R A : Type 0} (forms : PlainForms O Q R A) : Type 0 where
  pub ops : AreNames forms.op forms.has op_kind
  pub queries : AreNames forms.query forms.has query_kind
  pub replies : AreNamed forms.reply forms.has reply_kind
  pub answers : AreNamed forms.answer forms.has answer_kind
  pub sequences : (k : Kind) → forms.has k ≡ false → k ≡ kind.Sequence
