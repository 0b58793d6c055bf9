mod EndPlaces
mod Grouped
mod HeadPlaces
mod Later
mod LineWords
mod Printed
mod Sorted
mod StoreLines
