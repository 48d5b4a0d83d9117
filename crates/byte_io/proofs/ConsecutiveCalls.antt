-- Known bytes over two consecutive calls.
use Rattle.std.proofs.Common.{◌≡◌, ◌∙◌, ◌+◌, ◌-◌, ◌≤◌, ◌<◌, arith, ℕ, zero, suc, List, [], ◌∷◌, ◌++◌, Option, Some, None, Result, Ok, Err, flat_map, get_or, take, drop, length, length-append, sym, ap, append_assoc}
use Rattle.std.specs.Io.KnownBytes.{Appends, Consumes, IsAtEnd}
use Rattle.std.proofs.Math.Seq.{take-add, take-append-add}
use Rattle.std.specs.Prelude.{Bool, true, false, if◌then◌else◌, IfSome, OnErr}
use Rattle.byte_io.specs.Devices.{AppendsPrefix}
use Rattle.std.proofs.lemmas.List.{append-nil, length-drop, length-take-le, take-append-le, take_all}
use borrow.Rule.Slice.PartMut.{post_of, put_mid}

pub consumes_more : (a b c : Option (List ℕ)) (xs ys : List ℕ) → Consumes a b xs → Consumes b c ys → Consumes a c (xs ++ ys)
consumes_more None b c xs ys h k = tt
consumes_more (Some a) (Some b) (Some c) xs ys h k = h ∙ ap (λ z. xs ++ z) k ∙ sym (append_assoc xs ys c)
consumes_more (Some a) (Some b) None xs ys h k = absurd k
consumes_more (Some a) None c xs ys h k = absurd h

pub whole_read : (a b c : Option (List ℕ)) (xs : List ℕ) → Consumes a b xs → Consumes b c [] → IsAtEnd c → IfSome a (λ bytes. xs ≡ bytes)
whole_read None b c xs h k end = tt
whole_read (Some a) (Some b) (Some c) xs h k end = sym (h ∙ ap (λ z. xs ++ z) (k ∙ end) ∙ append-nil xs)
whole_read (Some a) (Some b) None xs h k end = absurd k
whole_read (Some a) None c xs h k end = absurd h

pub grown : (taken : Bool) (all more new : List ℕ) → taken ≡ true → new ≡ (if taken then all ++ more else all) → new ≡ all ++ more
grown true all more new e is = is
grown false all more new e is = absurd (cc)

pub appends_more : (a b c : Option (List ℕ)) (bytes : List ℕ) (n m : ℕ) → Appends a b (take n bytes) → Appends b c (take m (drop n bytes))
    → Appends a c (take (n + m) bytes)
appends_more None b c bytes n m h k = tt
appends_more (Some a) (Some b) (Some c) bytes n m h k =
    k ∙ ap (λ z. z ++ take m (drop n bytes)) h ∙ append_assoc a (take n bytes) (take m (drop n bytes)) ∙ ap (λ z. a ++ z) (sym (take-add n m bytes))
appends_more (Some a) (Some b) None bytes n m h k = absurd k
appends_more (Some a) None c bytes n m h k = absurd h

appends_both : (a b c : Option (List ℕ)) (xs ys : List ℕ) → Appends a b xs → Appends b c ys → Appends a c (xs ++ ys)
appends_both None b c xs ys h k = tt
appends_both (Some a) (Some b) (Some c) xs ys h k = k ∙ ap (λ z. z ++ ys) h ∙ append_assoc a xs ys
appends_both (Some a) (Some b) None xs ys h k = absurd k
appends_both (Some a) None c xs ys h k = absurd h

parted : {X : Type 0} (f : X → List ℕ) (texts : List X) (i : ℕ) (x : X) → i < length texts → x ≡ get_or texts i x
    → (more : List ℕ) × (flat_map f texts ≡ flat_map f (take i texts) ++ (f x ++ more))
parted f [] i x lt e = absurd (omega (arith, lt))
parted f (t ∷ texts) zero x lt e = (flat_map f texts, ap (λ z. f z ++ flat_map f texts) (sym e))
parted f (t ∷ texts) (suc i) x lt e =
    let rest = parted f texts i x (omega (arith, lt)) e in
    (rest.0, ap (λ l. f t ++ l) rest.1 ∙ sym (append_assoc (f t) (flat_map f (take i texts)) (f x ++ rest.0)))

-- a prefix of a text, written after the texts before it
pub texts_prefix : {X : Type 0} (f : X → List ℕ) (texts : List X) (i : ℕ) (x : X) (a b c : Option (List ℕ)) → i < length texts → x ≡ get_or texts i x
    → Appends a b (flat_map f (take i texts)) → AppendsPrefix b c (f x) → AppendsPrefix a c (flat_map f texts)
texts_prefix f texts i x a b c lt at before begun =
    let front = flat_map f (take i texts) in
    let parts = parted f texts i x lt at in
    let cut : take (length front + begun.0) (flat_map f texts) ≡ front ++ take begun.0 (f x)
    = ap (take (length front + begun.0)) parts.1 ∙ take-append-add front (f x ++ parts.0) begun.0 ∙ ap (λ l. front ++ l) (take-append-le begun.0 (f x) parts.0 begun.1) in
    let within : length front + begun.0 ≤ length (flat_map f texts) = omega (arith, begun.1, ap length parts.1, length-append front (f x ++ parts.0), length-append (f x) parts.0) in
    (length front + begun.0, within, rw cut (appends_both a b c front (take begun.0 (f x)) before begun.2))

pub err_holds : {T E P : Type 0} (result : Result T E) → P → OnErr result P
err_holds (Ok v) p = tt
err_holds (Err e) p = p

pub slice_end : (s : ℕ) (xs : List ℕ) → take (length xs - s) (drop s xs) ≡ drop s xs
slice_end s xs = take_all (length xs - s) (drop s xs) (omega (arith, length-drop s xs))

pub buffer-filled : (filled n k : ℕ) (buffer buf : List ℕ) → filled ≤ length buffer → n ≤ length buf → take (filled + n) (put_mid filled k buffer buf) ≡ take filled buffer ++ take n buf
buffer-filled filled n k buffer buf h within =
    let front : length (take filled buffer) ≡ filled = length-take-le filled buffer h in
    ap (λ m. take (m + n) (put_mid filled k buffer buf)) (sym front) ∙ take-append-add (take filled buffer) (buf ++ post_of filled k buffer) n
    ∙ ap (λ xs. take filled buffer ++ xs) (take-append-le n buf (post_of filled k buffer) within)

pub buffer-long : (filled k : ℕ) (buffer buf : List ℕ) → filled ≤ length buffer → length buffer - filled ≤ length buf → length buffer ≤ length (put_mid filled k buffer buf)
buffer-long filled k buffer buf h long =
    omega (arith, length-append (take filled buffer) (buf ++ post_of filled k buffer), length-append buf (post_of filled k buffer), length-take-le filled buffer h, long)
