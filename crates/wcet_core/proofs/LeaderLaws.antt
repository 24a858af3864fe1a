-- What a leader is worth once one more list of arguments was tried.
use Rattle.std.proofs.Common.{◌≡◌, ◌≢◌, ℕ, ◌+◌, ◌^◌, ◌<◌, ◌≤◌, List, Option, Some, None, sum, refl, subst, inl, inr, arith}
use Rattle.std.proofs.lemmas.Bool.{cases_lt}
use Rattle.wx_base.specs.Args.{AreArguments}
use Rattle.wcet_core.specs.Trial.{IsFirstBest, IsFirstBestBelow, IsLeader, place}
use Rattle.wcet_core.proofs.PlaceLaws.{place-below, place-injective, place-ComesBefore}

module _ (reaches : List ℕ → ℕ → Type 0) (widths : List ℕ) where
  -- what holds of the arguments before these, and of these, holds of those at one more place
  below_more : (args : List ℕ) (P : List ℕ → Type 0) → AreArguments widths args
      → ((others : List ℕ) → AreArguments widths others → place widths others < place widths args → P others) → P args
      → (others : List ℕ) → AreArguments widths others → place widths others < place widths args + 1 → P others
  below_more args P are before here others also below =
      elim (cases_lt (place widths others) (place widths args)) [
        | inl less ↦ before others also less
        | inr past ↦ subst P (place-injective widths args others are also (omega arith)) here
      ]

  -- a bound on all that were tried is one on these arguments too
  under : (args leader : List ℕ) (most : ℕ) → AreArguments widths args → ((n : ℕ) → reaches args n → n ≤ most)
      → IsLeader reaches widths (place widths args) leader (Some most) → IsLeader reaches widths (place widths args + 1) leader (Some most)
  under args leader most are bound leads = record {
    are = leads.are;
    reached = leads.reached;
    at_most = λ others n also below. below_more args (λ others. (n : ℕ) → reaches others n → n ≤ most) are (λ others also below n. leads.at_most others n also below) bound others also below n;
    first = leads.first;
  }

  -- arguments that cost no more than the leader change nothing
  pub IsLeader-kept : (args leader : List ℕ) (most : Option ℕ) (cost : ℕ) → AreArguments widths args → ((n : ℕ) → reaches args n → n ≤ cost)
      → most ≢ None → ((lead : ℕ) → most ≡ Some lead → cost ≤ lead)
      → IsLeader reaches widths (place widths args) leader most → IsLeader reaches widths (place widths args + 1) leader most
  IsLeader-kept args leader None cost are bound some less leads = absurd (some refl)
  IsLeader-kept args leader (Some most) cost are bound some less leads =
      under args leader most are
      (λ n reach.
      let within : n ≤ cost = bound n reach in
      let lead : cost ≤ most = less most refl in
      omega arith) leads

  -- nor do arguments with no run
  pub IsLeader-no_run : (args leader : List ℕ) (most : Option ℕ) → AreArguments widths args → ((n : ℕ) → reaches args n → ⊥)
      → IsLeader reaches widths (place widths args) leader most → IsLeader reaches widths (place widths args + 1) leader most
  IsLeader-no_run args leader None are none leads =
      λ others n also below. below_more args (λ others. (n : ℕ) → reaches others n → ⊥) are (λ others also below n. leads others n also below) none others also below n
  IsLeader-no_run args leader (Some most) are none leads = under args leader most are (λ n reach. absurd (none n reach)) leads

  -- arguments that cost more than all before them are the first of the best
  taken : (args : List ℕ) (cost : ℕ) → AreArguments widths args → reaches args cost → ((n : ℕ) → reaches args n → n ≤ cost)
      → ((others : List ℕ) (n : ℕ) → AreArguments widths others → place widths others < place widths args → reaches others n → n < cost)
      → IsFirstBestBelow reaches widths (place widths args + 1) args cost
  taken args cost are reached bound less = record {
    are = are;
    reached = reached;
    at_most = λ others n also below. below_more args (λ others. (n : ℕ) → reaches others n → n ≤ cost) are (λ others also below n reach. let under : n < cost = less others n also below reach in omega arith) bound others also below n;
    first = λ others also below reach. let under : cost < cost = less others cost also below reach in absurd (omega arith);
  }

  -- arguments that cost more than the leader lead
  pub IsLeader-better : (args leader : List ℕ) (most : Option ℕ) (cost : ℕ) → AreArguments widths args → reaches args cost → ((n : ℕ) → reaches args n → n ≤ cost)
      → ((lead : ℕ) → most ≡ Some lead → lead < cost)
      → IsLeader reaches widths (place widths args) leader most → IsFirstBestBelow reaches widths (place widths args + 1) args cost
  IsLeader-better args leader None cost are reached bound more leads = taken args cost are reached bound (λ others n also below reach. absurd (leads others n also below reach))
  IsLeader-better args leader (Some most) cost are reached bound more leads =
      taken args cost are reached bound
      (λ others n also below reach.
      let under : n ≤ most = leads.at_most others n also below reach in
      let over : most < cost = more most refl in
      omega arith)

  -- after all arguments the leader is the first of the best
  pub IsLeader-all : (args : List ℕ) (cost : ℕ) → IsLeader reaches widths (2 ^ sum widths) args (Some cost) → IsFirstBest reaches widths args cost
  IsLeader-all args cost leads = record {
    are = leads.are;
    reached = leads.reached;
    at_most = λ others n also. leads.at_most others n also (place-below widths others also);
    first = λ others also reach before. leads.first others also (place-ComesBefore widths others args also leads.are before) reach;
  }

  -- without a leader nothing was reached
  pub IsLeader-none : (args : List ℕ) → IsLeader reaches widths (2 ^ sum widths) args None → (others : List ℕ) (n : ℕ) → AreArguments widths others → reaches others n → ⊥
  IsLeader-none args leads others n also = leads others n also (place-below widths others also)
