mod CellOfStorage
mod CellSums
mod Counts
mod FlushSteps
mod HeldPins
mod LastStores
mod Loads
mod Lookups
mod Marks
mod NewParts
mod NextImage
mod NextKeys
mod PinsInHand
mod Repinned
mod ShrinkSteps
mod SnapImages
mod SnapPins
mod SnapSteps
mod Steps
mod StoredLoads
mod Unpins
pub mod BegunFlush
pub mod CellChanges
pub mod CrowdedKeys
pub mod DroppedFlush
pub mod DroppedVersion
pub mod EndedFlush
pub mod Found
pub mod Leases
pub mod Members
pub mod OpenFlush
pub mod Reflected
pub mod RetiredStorage
pub mod SameRows
pub mod CopiedRows
pub mod PinnedCells
pub mod BegunShrink
pub mod UsedStorage
pub mod OpenCopy
pub mod InstalledShrink
pub mod DroppedShrink
pub mod RecycledCells
pub mod RowPlaces
pub mod SlotChanges
pub mod StoredVersions
pub mod OpenedLists
pub mod OpenedStates
pub mod OpenedRows
pub mod OpenedCounts
pub mod OpenedImage
