-- The laws of entries that take keys.
use Rattle.std.proofs.Common.{◌≡◌, ◌∙◌, Bool, true, false, List, [], ◌∷◌, ◌++◌, get_or, sym, ap, refl, arith, inl, inr, append_assoc}
use Rattle.std.specs.List.{fold}
use Rattle.std.proofs.lemmas.List.{append-nil, get_or_default}
use Rattle.std.proofs.lemmas.List.Sums.{fold-append, sum_by-append}
use Rattle.std.specs.Str.{bytes_eq}
use Rattle.std.proofs.lemmas.Bool.{cases_Bool}
use Rattle.std.proofs.lemmas.List.Elements.{All-append}
use Rattle.std.proofs.lemmas.Slice.Eq.{bytes_eq-Decides}
use Rattle.key_index.proofs.Firsts.{own, stays}
use Rattle.key_index.proofs.Growth.{among}
use Rattle.key_index.specs.Keys.{Key, is_interned, with_key}
use Rattle.key_counts.specs.Counts.{AreInterned, CounterState, Entries, Takes, TakesLater, recorded, records_of}

pub added-interned : (before added : List Key) (key : Key)
    → is_interned added key ≡ true → is_interned (fold with_key before added) key ≡ true
added-interned before [] key is = absurd (cc is)
added-interned before (k ∷ added) key is =
    elim (cases_Bool (bytes_eq key k)) [
      | inl e ↦
          let same : key ≡ k = (bytes_eq-Decides key k).0 e in
          let now = with_key before k in
          let here : is_interned now key ≡ true = ap (is_interned now) same ∙ (own before k).0 in
          (stays now added key here).0
      | inr e ↦
          let later : is_interned added key ≡ true = rw e at is in
          added-interned (with_key before k) added key later
    ]

pub all-known : (before known added : List Key)
    → AreInterned known before → AreInterned (known ++ added) (fold with_key before added)
all-known before known added all =
    let P = λ (key : Key). is_interned (fold with_key before added) key ≡ true in
    All-append P known added
    (λ k d lt. (stays before added (get_or known k d) (all k d lt)).0)
    (λ k d lt.
    let key = get_or added k d in
    added-interned before added key (among added key k lt (get_or_default added k [] d lt)))

none-recorded : (coded : Bool) → recorded coded [] ≡ []
none-recorded true = refl
none-recorded false = refl

both-recorded : (coded : Bool) (xs ys : List Key) → recorded coded xs ++ recorded coded ys ≡ recorded coded (xs ++ ys)
both-recorded true xs ys = refl
both-recorded false xs ys = refl

pub takes-none : (entries : Entries) → Takes entries entries []
takes-none entries = record {
  added = [];
  grown = sym (append-nil entries.keys);
  order = λ before all. refl;
  counted = λ f. omega arith;
  same = refl;
  records = sym (ap (λ ks. records_of entries ++ ks) (none-recorded entries.coded) ∙ append-nil (records_of entries));
}

pub takes-then : (a b c : Entries) (xs ys : List Key)
    → Takes a b xs → Takes b c ys → Takes a c (xs ++ ys)
takes-then a b c xs ys first second = record {
  added = first.added ++ second.added;
  grown =
      second.grown
      ∙ ap (λ ks. ks ++ second.added) first.grown
      ∙ append_assoc a.keys first.added second.added;
  order = λ before all.
      let now = fold with_key before first.added in
      let known : AreInterned b.keys now =
      rw first.grown (all-known before a.keys first.added all) in
      fold-append with_key before xs ys
      ∙ ap (λ ks. fold with_key ks ys) (first.order before all)
      ∙ second.order now known
      ∙ sym (fold-append with_key before first.added second.added);
  counted = λ f. omega (arith, sum_by-append f xs ys, first.counted f, second.counted f);
  same = second.same ∙ first.same;
  records =
      second.records
      ∙ ap (λ ks. ks ++ recorded b.coded ys) first.records
      ∙ append_assoc (records_of a) (recorded a.coded xs) (recorded b.coded ys)
      ∙ ap (λ coded. records_of a ++ (recorded a.coded xs ++ recorded coded ys)) first.same
      ∙ ap (λ ks. records_of a ++ ks) (both-recorded a.coded xs ys);
}

pub later-nothing : (state : CounterState) → TakesLater state [] state
later-nothing state = record {
  counted = [];
  takes = takes-none state.entries;
  order = append-nil state.waiting;
}

pub later-more : (a b c : CounterState) (xs ys : List Key)
    → TakesLater a xs b → TakesLater b ys c → TakesLater a (xs ++ ys) c
later-more a b c xs ys first second = record {
  counted = first.counted ++ second.counted;
  takes =
      takes-then a.entries b.entries c.entries first.counted second.counted
      first.takes second.takes;
  order =
      sym (append_assoc a.waiting xs ys)
      ∙ ap (λ ks. ks ++ ys) first.order
      ∙ append_assoc first.counted b.waiting ys
      ∙ ap (λ ks. first.counted ++ ks) second.order
      ∙ sym (append_assoc first.counted second.counted c.waiting);
}
