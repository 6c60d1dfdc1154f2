mod NextRow
