mod AddedEntries
mod AdoptedArchive
mod AdoptedEpochs
mod CarriedOut
mod Carrying
pub mod Changing
mod ConvertCarried
mod ConvertPlanned
mod Delivering
mod Edited
mod Ends
mod Entering
mod EntryExtents
mod Finished
mod FirstRoots
mod Initial
mod Kept
mod KeptFiles
mod LosingAll
mod Making
mod MessagedArchive
mod MorePlanned
mod NextArchive
mod Placed
mod Purged
pub mod Readying
mod Reopening
mod Settles
mod TextDamage
mod Texts
mod TextsOpened
mod Unique
mod WholeEpochs
pub mod OwnForm
