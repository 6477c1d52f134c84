use Rattle.std.proofs.Common.{rules, ◌≡◌, ℕ, ◌+◌, ◌<◌, length, List, take, slice_index_or, Bool, true, false, not, ◌&&◌, nat_eq, sym, ◌∙◌, add-one}
use Rattle.std.proofs.Math.Seq.{take-suc}
use Rattle.std.proofs.lemmas.Fn.{FoldsTo-push}
use Rattle.std.proofs.lemmas.Option.{slice_get-get_or}
use Rattle.std.specs.List.{FoldsTo}
use Rattle.std.specs.Option.{option_eq}
use Rattle.rung_cases.specs.Cases.{Came, AsExpected}
use Rattle.rung_cases.specs.contracts.expected.ExpectedPartialEq.TheImpl.{ghosts}
use Rattle.rung_cases.proofs.expected.play.Goals as goal

-- whether the code finds two outcomes the same
abbrev same : Came → Came → Bool
same a b = ghosts.eq a.0 b.0 && option_eq (λ x y. nat_eq x.0 y.0 && nat_eq x.1 y.1) a.1 b.1

-- outcomes that the code does not find different are equal, and those that it finds different are not
equal : (a b : Came) → not (same a b) ≡ false → a ≡ b
equal a b e = search rules

unequal : (a b : Came) → not (same a b) ≡ true → a ≡ b → ⊥
unequal a b t e = search rules

-- one more item is gone over
one_more : {P A : Type 0} (R : P → A → P → Type 0) (p q u : P) (xs : List A) (n : ℕ) (d : A) → FoldsTo R p (take n xs) q → n < length xs → R q (slice_index_or xs n d) u → FoldsTo R p (take (n + 1) xs) u
one_more R p q u xs n d h below r = rw (add-one n, take-suc xs n d below) (FoldsTo-push R p (take n xs) q (slice_index_or xs n d) u h r)

pub loop-number-preserved : goal.loop-number-preserved
loop-number-preserved g c =
    let e = equal c.answer-came.result _ (sym c.ne.ensures ∙ c.if-ne.false) in
    one_more (AsExpected g.S.Server.answers) _ _ _ c.args.cases.now c.loop-number.number _ c.loop-number.invariant c.loop-number-test.true (rw e at c.answer-came.ensures)

pub returns-then-ne : goal.returns-then-ne
returns-then-ne g c = record {
  case = slice_get-get_or c.args.cases.now c.loop-number.number _ c.loop-number-test.true;
  before = c.loop-number.server;
  after = c.answer-came.new.self;
  as_expected = c.loop-number.invariant;
  call = c.answer-came.ensures;
  otherwise = unequal c.answer-came.result _ (sym c.ne.ensures ∙ c.if-ne.true);
}
