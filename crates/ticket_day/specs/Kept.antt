-- What every call keeps of a manager and its memory has one proof at most, so a desk keeps it as a ghost field.
use Rattle.std.specs.Prelude.{ℕ, zero, suc, ◌+◌, List, [], ◌∷◌, Some, None, Option}
use Rattle.std.specs.Coded.{Unit-prop, le_prop}
use Rattle.std.proofs.Props.{props}
use Rattle.kinds.specs.Meaning.{Meaning, Under}
use Rattle.maps.specs.Maps.{Once}
use Rattle.terms.specs.declared.cell.Cell.{Cell}
use Rattle.terms.specs.Terms.{arity, Leaves, Starts}
use Rattle.serial.specs.Machine.{Pending, KeysOnce}
use Rattle.manager.specs.declared.memory.Memory.{Memory}
use Rattle.manager.specs.declared.state.Manager.{Manager}
use Rattle.manager.specs.Book.{Well}

pub Once-prop : {A : Type 0} (l : List A) → IsProp (Once l)
Once-prop [] = Unit-prop
Once-prop (a ∷ l) = hlevel (Once-prop l)

pub KeysOnce-prop : {Row : Type 0} (cs : List (Pending Row)) → IsProp (KeysOnce cs)
KeysOnce-prop [] = Unit-prop
KeysOnce-prop (c ∷ cs) = hlevel (KeysOnce-prop cs)

pub Leaves-prop : (sig : List ℕ) (n : ℕ) (cs : List Cell) (m : ℕ) → IsProp (Leaves sig n cs m)
Leaves-prop sig n [] m = hlevel props
Leaves-prop sig zero (c ∷ cs) m = hlevel
Leaves-prop sig (suc n) (c ∷ cs) m = Leaves-prop sig (arity sig c + n) cs m

pub Starts-prop : (cs : List Cell) → IsProp (Starts cs)
Starts-prop [] = Unit-prop
Starts-prop (c ∷ cs) = hlevel props

pub Under-prop : (top : Option ℕ) (code : ℕ) → IsProp (Under top code)
Under-prop None code = hlevel
Under-prop (Some t) code = le_prop

pub Well-prop : {K : Type 0} (means : K → Meaning) (m : Manager K) (x : Memory) → IsProp (Well means m x)
Well-prop means m x = hlevel (props, Once-prop, KeysOnce-prop, Leaves-prop, Starts-prop, Under-prop)
