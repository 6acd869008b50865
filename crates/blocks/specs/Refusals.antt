-- The paper's number of each refusal ("Refused, in checking order"); document 02: "Refusal 19 is never given again."
use Rattle.std.specs.Prelude.{ℕ}
use Rattle.blocks.specs.declared.Refusal.{Refusal}
use Rattle.blocks.specs.declared.Refusal.TheVariants.{ShortImage, NoMagic, BlockSize, BlockCount, MissingBlocks, ShortMap, DescriptorLength, DescriptorArea, NoCheckpoint, Incompatible, CountDiffers, PastContainer, BadChecksum, WrongKind, BadNode, Unmapped, OutsideBytes, WrongLevel, BadBitmap, Overflow, TooManyNodes, VolumeUnmapped, NotVolume, RingIndex}

abbrev pub number_of : Refusal → ℕ
number_of ShortImage = 1
number_of NoMagic = 2
number_of BlockSize = 3
number_of BlockCount = 4
number_of MissingBlocks = 5
number_of ShortMap = 6
number_of DescriptorLength = 7
number_of DescriptorArea = 8
number_of NoCheckpoint = 9
number_of Incompatible = 10
number_of CountDiffers = 11
number_of PastContainer = 12
number_of BadChecksum = 13
number_of WrongKind = 14
number_of BadNode = 15
number_of Unmapped = 16
number_of OutsideBytes = 17
number_of WrongLevel = 18
number_of BadBitmap = 20
number_of Overflow = 21
number_of TooManyNodes = 22
-- document 02: "23, a volume's lookup reaches none, a ghost or a deleted mapping"; "24, the mapped object isn't kind 13 with bytes APSB at 32"
number_of VolumeUnmapped = 23
number_of NotVolume = 24
-- document 02: "25, an index on the list is at or above the ring's block count"
number_of RingIndex = 25
