-- The codes of refusals, by their numbers in 01's table and 02's requests. Assumes nothing.
use Rattle.std.specs.Prelude.{ℕ}
use Rattle.layout.specs.declared.codes.Code.{Code}
use Rattle.layout.specs.declared.codes.Code.TheVariants.{OverLimit, NoMark, CutShort, NoEnd, BadLength, BadBacklink, MisplacedSignature, UnknownIdentifier, Unfit, Overfull, DeclaredTwice, NoParent, TooMany, BehindEnd, ClassAbsent, WrongCount, Unturnable, NoRoom, NormalOverLimit, NoWord, NoSamples, NotRising, BadWord, Miscounted, ShortLength, ShortTable, NotSv, OutsideLevels, NoReading, NotHeld}

abbrev pub number : Code → ℕ
number OverLimit = 1
number NoMark = 2
number CutShort = 3
number NoEnd = 4
number BadLength = 5
number BadBacklink = 6
number MisplacedSignature = 7
number UnknownIdentifier = 8
number Unfit = 9
number Overfull = 11
number DeclaredTwice = 12
number NoParent = 13
number TooMany = 14
number BehindEnd = 15
number ClassAbsent = 16
number WrongCount = 17
number Unturnable = 18
number NoRoom = 19
number NormalOverLimit = 20
number NoWord = 21
number NoSamples = 22
number NotRising = 23
number BadWord = 24
number Miscounted = 25
number ShortLength = 26
number ShortTable = 27
number NotSv = 28
number OutsideLevels = 29
number NoReading = 30
number NotHeld = 31
