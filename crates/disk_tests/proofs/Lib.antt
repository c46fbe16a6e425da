mod Gate
