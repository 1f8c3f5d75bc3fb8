-- The length of a body: what the test of its length says, and what the check's answer says of it. Assumes nothing.
use Rattle.std.specs.Prelude.{Err, None, Ok, Option, Some}
use Prim.Native.Nat.{ℕ, ◌+◌, ◌*◌, ◌/◌, ◌%◌, ◌≤◌}
use mathlib.Core.Path.{◌≡◌, refl, ap}
use mathlib.Core.Bool.{Bool, true, false, cond}
use mathlib.Core.List.{List}
use native.Mathlib.Nat.{div-add-mod, le-div_iff_mul-le, div-le_of_le-mul, mul-mod_right, mul-div_right, le-mul_of_pos_right, mul-le-mul_left}
use native.Mathlib.Omega.{arith}
use lib.Dec.{eqb, leb}
use lib.ListN.{length}
use borrow.Author.Tests.{eq-eqb, le-leb, eqb-true, leb-true}
use Rattle.rules.proofs.Impossible.{impossible}
use Rattle.rules.specs.Limits.{most_entries}
use Rattle.refusal.specs.declared.Refusal.TheVariants.{Size}
use Rattle.refusal.specs.Table.{entry_named, broken_at}
use Rattle.body.specs.Entry.{entries}
use Rattle.body.specs.Check.{scan, sized, verdict, check_of}

-- n bytes are 1 to 63 whole entries
pub record Whole (width n : ℕ) : Type 0 where
  pub full : n ≡ (width + 1) * (n / (width + 1))
  pub least : 1 ≤ n / (width + 1)
  pub most : n / (width + 1) ≤ most_entries

pub sized_whole : (width n : ℕ) → sized width n ≡ true → Whole width n
unfolding sized
sized_whole width n p = go (eqb (n % (width + 1)) 0) (leb (width + 1) n) (leb n (most_entries * (width + 1))) refl refl refl p
  where
    go : (t₁ t₂ t₃ : Bool) → eqb (n % (width + 1)) 0 ≡ t₁ → leb (width + 1) n ≡ t₂ → leb n (most_entries * (width + 1)) ≡ t₃
        → cond t₁ (cond t₂ t₃ false) false ≡ true → Whole width n
    go true true true p q r h = record {
      full = omega (arith, div-add-mod n (width + 1), eqb-true (n % (width + 1)) 0 p);
      least = (le-div_iff_mul-le {k = width + 1} {x = 1} {y = n} (omega arith)).1 (omega (arith, leb-true (width + 1) n q));
      most = div-le_of_le-mul (width + 1) {m = n} {n = 63} (omega (arith, leb-true n (most_entries * (width + 1)) r));
    }
    go true true false p q r h = impossible cc
    go true false t₃ p q r h = impossible cc
    go false t₂ t₃ p q r h = impossible cc

-- k entries, 1 to 63, pass
module _ (width n k : ℕ) (e : n ≡ (width + 1) * k) where
  pub whole_count : n / (width + 1) ≡ k
  whole_count = rw e (mul-div_right k {m = width + 1} (omega arith))

  pub whole_sized : 1 ≤ k → k ≤ most_entries → sized width n ≡ true
  unfolding sized
  whole_sized l m =
      let p : n % (width + 1) ≡ 0 = rw e (mul-mod_right (width + 1) k) in
      let q : width + 1 ≤ n = omega (arith, le-mul_of_pos_right {m = k} (width + 1) l) in
      let r : n ≤ most_entries * (width + 1) = omega (arith, mul-le-mul_left {m = k} {n = 63} (width + 1) m) in
      rw (eq-eqb (n % (width + 1)) 0 p, le-leb (width + 1) n q, le-leb n (most_entries * (width + 1)) r)

-- the check's answer, by the test of the length and the scan of the entries
sound_cond : (t : Bool) (o : Option ℕ) → cond t (verdict 0 o) (Err Size) ≡ Ok tt → (t ≡ true) × (o ≡ None)
sound_cond true None p = (refl, refl)
sound_cond true (Some i) p = impossible cc
sound_cond false o p = impossible cc

body_cond : (t : Bool) (o : Option ℕ) (i : ℕ) → cond t (verdict 0 o) (Err Size) ≡ Err (broken_at 0 i) → (t ≡ true) × (o ≡ Some i)
body_cond true None i p = impossible cc
body_cond true (Some j) i p = let q : broken_at 0 j ≡ broken_at 0 i = cc in (refl, ap Some (ap entry_named q))
body_cond false o i p = impossible cc

size_cond : (t : Bool) (o : Option ℕ) → cond t (verdict 0 o) (Err Size) ≡ Err Size → t ≡ false
size_cond true None p = impossible cc
size_cond true (Some i) p = impossible cc
size_cond false o p = refl

module _ (width : ℕ) (b : List ℕ) where
  pub sound_parts : check_of width b ≡ Ok tt → (sized width (length b) ≡ true) × (scan (entries width b) 0 0 ≡ None)
  unfolding check_of
  sound_parts p = sound_cond (sized width (length b)) (scan (entries width b) 0 0) p

  pub body_parts : (i : ℕ) → check_of width b ≡ Err (broken_at 0 i) → (sized width (length b) ≡ true) × (scan (entries width b) 0 0 ≡ Some i)
  unfolding check_of
  body_parts i p = body_cond (sized width (length b)) (scan (entries width b) 0 0) i p

  pub size_part : check_of width b ≡ Err Size → sized width (length b) ≡ false
  unfolding check_of
  size_part p = size_cond (sized width (length b)) (scan (entries width b) 0 0) p

  pub check_by : sized width (length b) ≡ true → check_of width b ≡ verdict 0 (scan (entries width b) 0 0)
  unfolding check_of
  check_by p = rw p

  pub check_size : sized width (length b) ≡ false → check_of width b ≡ Err Size
  unfolding check_of
  check_size p = rw p
