mod CellStops
mod PageStops
