-- The first reply is taken away.
use Rattle.std.proofs.Common.{◌≡◌, ℕ, ◌+◌, ◌-◌, ◌≤◌, true, false, List, [], ◌∷◌, ◌++◌, length, take, drop, get_or, is_some, Option, Some, None, sym, subst, ap, ◌∙◌, arith, length-drop}
use Rattle.std.specs.Prelude.{MatchOption, option_to_list}
use Rattle.std.proofs.lemmas.List.{length-take-le, drop-drop}
use Rattle.lst_model.specs.declared.replies.Reply.{Reply}
use Rattle.lst_model.specs.declared.replies.Reply.TheVariants as variant
use Rattle.lst_reply_queue.specs.declared.kinds.Kind.{Kind}
use Rattle.lst_reply_queue.specs.Kinds.{width, told, IsWhole, reply_of, others_after, HasReply, all_told, AreKept}

-- what a queue answers that is asked for its first reply
abbrev pub Takes : Option Reply → List Reply → List Reply → Type 0
Takes reply old new = MatchOption reply ((old ≡ []) × (new ≡ [])) (λ r. old ≡ r ∷ new)

-- there is none
pub takes_none : (kinds later : List Kind) (numbers : List ℕ) (others old : List Reply) (r : Option Reply) → all_told kinds numbers others ≡ old → kinds ≡ later → later ≡ drop 1 kinds → r ≡ None
    → Takes r old (all_told later numbers others)
takes_none [] later numbers others old r view is rest answer = subst (λ (o : Option Reply). Takes o old (all_told later numbers others)) (sym answer)
    (sym view, ap (λ (ks : List Kind). all_told ks numbers others) (sym is))
takes_none (k ∷ ks) later numbers others old r view is rest answer = absurd (let a = ap length is in let b = ap length rest in omega arith)

-- the first of the others
first_other : (others new : List Reply) (r : Option Reply) → HasReply None others → others ≡ option_to_list r ++ new → new ≡ drop 1 others → r ≡ Some (reply_of None others)
first_other others new (Some o) some items rest = ap (λ (os : List Reply). Some (get_or os 0 variant.Silent)) (sym items)
first_other others new None some items rest = absurd (let a = ap length items in let b = ap length rest in let n = length-drop 1 others in omega arith)

module _ (kinds later : List Kind) (kind : Kind) (numbers cut : List ℕ) (taken wide : ℕ) (others : List Reply)
    (x : (taken ≤ length numbers) × AreKept kinds (drop taken numbers) others) (is : kinds ≡ kind ∷ later) (w : wide ≡ width kind) (same : cut ≡ numbers) where
  kept : AreKept (kind ∷ later) (drop taken numbers) others
  kept = subst (λ (ks : List Kind). AreKept ks (drop taken numbers) others) is x.1

  pub enough : taken + wide ≤ length numbers
  enough = let n = length-drop taken numbers in let low = x.0 in let more = kept.0 in omega arith

  past : drop (width kind) (drop taken numbers) ≡ drop (taken + wide) numbers
  past = drop-drop (width kind) taken numbers ∙ ap (λ (n : ℕ). drop (taken + n) numbers) (sym w)

  -- its numbers, as the program cuts them out
  its : take (taken + wide - taken) (drop taken cut) ≡ take (width kind) (drop taken numbers)
  its = ap (λ (ns : List ℕ). take (taken + wide - taken) (drop taken ns)) same ∙ ap (λ (n : ℕ). take n (drop taken numbers)) (let e : taken + wide - taken ≡ width kind = omega arith in e)

  pub are_wide : length (take (taken + wide - taken) (drop taken cut)) ≡ width kind
  are_wide = ap length its ∙ length-take-le (width kind) (drop taken numbers) kept.0

  pub are_whole : IsWhole kind (take (taken + wide - taken) (drop taken cut))
  are_whole = subst (IsWhole kind) (sym its) kept.1.0

  -- what is left when it is told by these numbers, or stands among the others
  abbrev IsTold : Option Reply → Type 0
  IsTold t = t ≡ told kind (take (taken + wide - taken) (drop taken cut))

  left : (t : Option Reply) → IsTold t → HasReply t others × AreKept later (drop (taken + wide) numbers) (others_after t others)
  left t tells = subst (λ (o : Option Reply). HasReply o others × AreKept later (drop (taken + wide) numbers) (others_after o others)) (sym (tells ∙ ap (told kind) its))
      (kept.1.1.0, subst (λ (ns : List ℕ). AreKept later ns (others_after (told kind (take (width kind) (drop taken numbers))) others)) past kept.1.1.1)

  parts : (t : Option Reply) → IsTold t → all_told kinds (drop taken numbers) others ≡ reply_of t others ∷ all_told later (drop (taken + wide) numbers) (others_after t others)
  parts t tells = ap (λ (ks : List Kind). all_told ks (drop taken numbers) others) is
      ∙ (ap (λ (ns : List ℕ). reply_of (told kind (take (width kind) (drop taken numbers))) others ∷ all_told later ns (others_after (told kind (take (width kind) (drop taken numbers))) others)) past
      ∙ ap (λ (o : Option Reply). reply_of o others ∷ all_told later (drop (taken + wide) numbers) (others_after o others)) (sym (tells ∙ ap (told kind) its)))

  pub told_leaves : (t : Option Reply) → IsTold t → is_some t ≡ true → (taken + wide ≤ length numbers) × AreKept later (drop (taken + wide) numbers) others
  told_leaves (Some r) tells some = (enough, (left (Some r) tells).1)
  told_leaves None tells some = absurd cc

  pub takes_told : (t : Option Reply) (old : List Reply) → IsTold t → is_some t ≡ true → all_told kinds (drop taken numbers) others ≡ old → Takes t old (all_told later (drop (taken + wide) numbers) others)
  takes_told (Some r) old tells some view = sym view ∙ parts (Some r) tells
  takes_told None old tells some view = absurd cc

  pub other_leaves : (t : Option Reply) (new : List Reply) → IsTold t → is_some t ≡ false → new ≡ drop 1 others → (taken + wide ≤ length numbers) × AreKept later (drop (taken + wide) numbers) new
  other_leaves (Some r) new tells none rest = absurd cc
  other_leaves None new tells none rest = (enough, subst (AreKept later (drop (taken + wide) numbers)) (sym rest) (left None tells).1)

  pub takes_other : (t r : Option Reply) (old new : List Reply) → IsTold t → is_some t ≡ false → others ≡ option_to_list r ++ new → new ≡ drop 1 others
      → all_told kinds (drop taken numbers) others ≡ old → Takes r old (all_told later (drop (taken + wide) numbers) new)
  takes_other (Some q) r old new tells none items rest view = absurd cc
  takes_other None r old new tells none items rest view = subst (λ (o : Option Reply). Takes o old (all_told later (drop (taken + wide) numbers) new)) (sym (first_other others new r (left None tells).0 items rest))
      (sym view ∙ (parts None tells ∙ ap (λ (os : List Reply). reply_of None others ∷ all_told later (drop (taken + wide) numbers) os) (sym rest)))
